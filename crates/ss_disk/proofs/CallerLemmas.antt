-- What crates above may rely on: the lemmas of this crate that they cite.

-- Runs of calls, put together.
pub use Rattle.ss_disk.proofs.Moments.{no_call, one_call, runs_join, leaves_less, goes_on, stays_only}
-- A crash in a call falls at one of the moments of the disk.
pub use Rattle.ss_disk.proofs.Loose.{crash_moment_within}
-- What stays so from each moment of a run to the later ones.
pub use Rattle.ss_disk.proofs.Staying.{fewer_none, fewer_call, fewer_later, stays_none, stays_fewer, stays_always, stays_write, stays_join}
