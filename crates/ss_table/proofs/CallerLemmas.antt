-- What crates above may rely on: lemmas of this crate and of the fragments' that they cite.

pub use Rattle.ss_fragment.proofs.CallerLemmas.{is_same}
-- Options, results and lists, case by case.
pub use Rattle.ss_fragment.proofs.CallerLemmas.{length_set, set_twice, get_set_other, get_set_same}
-- An entry in the middle of a map's list, and one put into a map and taken out again.
pub use Rattle.ss_fragment.proofs.CallerLemmas.{and_both, none_below}
pub use Rattle.ss_fragment.proofs.CallerLemmas.{get_inserted, get_removed, insert_insert, insert_over, insert_remove, remove_insert}
-- What holds of a map's entries, by what it has at its keys.
pub use Rattle.ss_table.proofs.Entries.{rows_so}
-- What two maps have together.
pub use Rattle.ss_table.proofs.Unions.{find-both, or_none}
pub use Rattle.ss_table.proofs.Joining.{get_two, none_left, none_right}
-- Where a part stands among others.
pub use Rattle.ss_table.proofs.Placing.{at_end, last_at, place_below}
pub use Rattle.ss_table.proofs.Joining.{place_kept, place_last, place_more, same_itself}
