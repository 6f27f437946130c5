-- What crates above may rely on: the lemmas of this crate that they cite.

-- Where names stand in lists.
pub use Rattle.ss_names.proofs.Positions.{position_below}
-- Sets of names.
pub use Rattle.ss_names.proofs.Sets.{with_name}
