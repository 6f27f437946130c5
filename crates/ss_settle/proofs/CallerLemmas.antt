-- What crates above may rely on: the lemmas of this crate that they cite.

-- A procedure that is ready at a partition.
pub use Rattle.ss_settle.proofs.Looks.{ready_below, ready_fits}
-- How settling ended, on the list that is handed over, and which of its steps settling ran.
pub use Rattle.ss_settle.proofs.Endings.{ended}
pub use Rattle.ss_settle.proofs.SettledLists.{ended_in_order}
