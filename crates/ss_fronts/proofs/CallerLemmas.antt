-- What crates above may rely on: the lemmas of this crate that they cite.

-- A strong log has all entries, and a weak one the requests.
pub use Rattle.ss_fronts.proofs.Lists.{all_logged, asked_logged}
-- So many requests are those of some first entries, and of two parts of a list those of both.
pub use Rattle.ss_fronts.proofs.Lists.{asked_take, between_more}
-- What is behind the first list and some of the next one.
pub use Rattle.ss_fronts.proofs.Lists.{drop_behind}
-- What holds of a list holds of each that goes on from it; and a front that ends at a place at least ends at each before that at least.
pub use Rattle.ss_fronts.proofs.Growing.{front_less, grows}
-- Of databases of which the same is kept the one has had as many batches as the other.
pub use Rattle.ss_fronts.proofs.Checkpoints.{had_alike}
