-- What crates above may rely on: the lemmas of this crate that they cite.

-- The least cursor of a stream.
pub use Rattle.ss_stream.proofs.Least.{count-from, least-at_most, least-moved}
