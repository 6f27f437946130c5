-- What crates above may rely on: the lemmas of this crate that they cite.

-- The first unit that may still be seen never goes back, and what is visible ends by the last unit.
pub use Rattle.ss_window.proofs.Rises.{given_up_first, same_count, settled_again, shown_countable, still_held}
