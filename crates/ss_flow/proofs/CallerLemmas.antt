-- What crates above may rely on: the lemmas of this crate that they cite.

-- The streams of a database follow an entry.
pub use Rattle.ss_flow.proofs.Following.{batches_have_streams}
