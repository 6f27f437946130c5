-- What crates above may rely on: the lemmas of this crate that they cite.

-- What clients asked for among entries, one list behind another.
pub use Rattle.ss_weak_lists.proofs.Asked.{asked_append, one_asked}
-- What holds of clients' entries of a list that replays.
pub use Rattle.ss_weak_lists.proofs.Asked.{askable, asked_are}
-- The entries after a list, and the database after them.
pub use Rattle.ss_weak_lists.proofs.WeakLists.{after_is, entries_append}
-- Two pushes through the workflow that splits and joins: their weak list, and where a replay of them stops.
pub use Rattle.ss_weak_lists.proofs.worked.Workflow.{again, weak as two_pushed, two_pushes, stops as push_stops}
