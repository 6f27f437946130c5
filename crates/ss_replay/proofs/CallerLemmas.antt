-- What crates above may rely on: the lemmas of this crate that they cite.

-- The empty database has had no batch, and can take entries from any place on.
pub use Rattle.ss_replay.proofs.Premises.{empty_had, opening_takes}
-- Behind a list that replays, a database stands so many places further, and can take one more entry, with which the list replays.
pub use Rattle.ss_replay.proofs.Replaying.{replayed_more, stands_behind}
-- An option that is not there.
pub use Rattle.ss_replay.proofs.Valued.{no_value}
-- A step is ready where its batch is the next one and its procedure is ready, and then it has a value.
pub use Rattle.ss_replay.proofs.Valued.{next_ready, step_value}
