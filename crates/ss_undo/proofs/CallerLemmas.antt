-- What crates above may rely on: the lemmas of this crate that they cite.

-- What takes a change back gives the tables before it.
pub use Rattle.ss_undo.proofs.Back.{came_more, one_changed, set_same, some_and}
-- What a commit leaves of tables and windows.
pub use Rattle.ss_undo.proofs.Final.{all_are_committed}
-- What the indexes of a table hold, change by change.
pub use Rattle.ss_undo.proofs.Holding.{hold_at_first, more_there, no_pairs, nothing_kept, rows_are_there}
-- What the indexes of several tables hold, where one change is noted or is no longer.
pub use Rattle.ss_undo.proofs.Indexed.{amended_indexed, columns_added, deleted_indexed, found_as, inserted_indexed, replaced_indexed, reported_as, unit_noted}
-- Rows that were put in place of others and have their pairs, where one change is noted.
pub use Rattle.ss_undo.proofs.Staying.{agrees_so, has_so, noted_stayed, pairs_back, put_stays, without_indexes}
-- Windows taken back, and made final.
pub use Rattle.ss_undo.proofs.Windows.{windows_more}
