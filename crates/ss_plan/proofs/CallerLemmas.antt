-- What crates above may rely on: the lemmas of this crate that they cite.

-- What is said of a meaning is said of an equal one.
pub use Rattle.ss_plan.proofs.Answering.{err_so}
-- Rows that are inserted one after the other.
pub use Rattle.ss_plan.proofs.Inserts.{changed_on}
