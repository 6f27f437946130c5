-- What crates above may rely on: the lemmas of this crate that they cite.

-- The inputs of a procedure are streams.
pub use Rattle.ss_sched.proofs.Inputs.{inputs_below}
-- A set of procedures that is filled by rising number, one number further.
pub use Rattle.ss_sched.proofs.Waking.{marks_more, marks_same}
-- What the kept streams of a database tell of it: their number, their lengths, and the batches that a consumer has still to take.
pub use Rattle.ss_sched.proofs.KeptStreams.{kept_at, kept_batch, kept_many, progress}
