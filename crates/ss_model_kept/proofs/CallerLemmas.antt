-- What crates above may rely on: the lemmas of this crate that they cite.

-- Contents with equal tables, and for each window the same number of units and the same kept units.
pub use Rattle.ss_model_kept.proofs.KeptContents.{drop_on, kept_more}
-- Databases with equal kept: equal outcomes, and equal kept after each entry.
pub use Rattle.ss_model_kept.proofs.KeptDatabase.{SameKeptDatabase, contents_kept, from_kept, kept_is_enough, least_rises, reads_kept, same_least}
-- The locality law: a run depends on the touched parts alone, and leaves every other part as it was.
pub use Rattle.ss_model_kept.proofs.Locality.{filter_passes, run_depends, run_is_local, run_leaves}
-- Equal parts are contents that agree, and back; a table and a window of a part.
pub use Rattle.ss_model_kept.proofs.PartLemmas.{agree_tables, agree_windows, part_store, part_table, part_window, parts_agree, same_slots, slot, unchanged_tables, unchanged_windows}
-- A slot of a list: after a write, and of a list that is made of another or of one thing.
pub use Rattle.ss_model_kept.proofs.ListItems.{get_or-alike, get_or-map_index, length-map_index, set_one, set_two}
