-- What crates above may rely on: the lemmas of this crate that they cite.

-- A shard that holds some parts of a database holds them of each database that has the same parts there.
pub use Rattle.ss_hand.proofs.Carrying.{holds_same_parts}
