-- What crates above may rely on: the lemmas of this crate that they cite.

-- What the reading calls of a fragment answer.
pub use Rattle.ss_fragment.proofs.Answered.{is_same}
-- Options, results and lists, case by case.
pub use Rattle.ss_fragment.proofs.Cases.{length_set, set_twice}
-- What a fragment's lists are where one cell changes.
pub use Rattle.ss_fragment.proofs.Cells.{get_set_other, get_set_same}
-- An entry in the middle of a map's list.
pub use Rattle.ss_fragment.proofs.Maps.{and_both, below_mid, none_below}
-- An entry put into a map and taken out again.
pub use Rattle.ss_fragment.proofs.PutBack.{get_inserted, get_removed, insert_insert, insert_over, insert_remove, remove_insert}
-- What stands behind a key.
pub use Rattle.ss_fragment.proofs.Cut.{retain_back}
