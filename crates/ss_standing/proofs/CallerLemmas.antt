-- What crates above may rely on: the lemmas of this crate that they cite.

-- The image of the empty database, part by part, and what its tables and sources have.
pub use Rattle.ss_standing.proofs.EmptyKept.{empty_image, no_table, no_sources}
-- An image begins with its catalogue's text, and bytes begin with one text.
pub use Rattle.ss_standing.proofs.EmptyKept.{image_begins}
pub use Rattle.ss_standing.proofs.Spelled.{one_text}
-- What stands for the empty database: the files of a new store, and an empty disk; an image has room for its procedures' own bodies.
pub use Rattle.ss_standing.proofs.Fronts.{forming_stands}
pub use Rattle.ss_standing.proofs.worked.Premises.{image_is as new_image_is, nothing as nothing_stands, own_fit as own_bodies_fit}
-- A store with a batch behind the image of a new one: its files, and what they stand for.
pub use Rattle.ss_standing.proofs.worked.Premises.{store as batch_store, files as batch_files, files_stand as batch_files_stand, prefix as batch_prefix, stands as batch_stands, at_least as batch_at_least}
-- The empty database has had no batch, and an image has room for what is kept of it.
pub use Rattle.ss_standing.proofs.Fronts.{empty_fits, empty_had_none}
-- The first entries of a list that replays do so, and there are as many entries as are listed.
pub use Rattle.ss_standing.proofs.Fronts.{entries_count, front_replays}
-- The entries behind the first ones of a list replay behind them, and a front of a list is one of a longer list.
pub use Rattle.ss_standing.proofs.Keeping.{front_goes_on, rest_replays}
-- On one database a list that replays is told by its entries.
pub use Rattle.ss_standing.proofs.OneThing.{entries_tell}
-- What a log counts of a store is how many executions its files stand for, which are one thing.
pub use Rattle.ss_standing.proofs.Keeping.{counts_executions}
-- What a loop over the items of a part has read so far: the next item joins those in front, and the first that is refused ends it.
pub use Rattle.ss_standing.proofs.Loops.{for_refused, item_refused, next_for, next_item, no_more_for, no_more_items}
-- A log's entries end as a list's where they stand behind others, where the same is added to both, where a checkpoint has emptied the log, and without checkpoints.
pub use Rattle.ss_standing.proofs.Ends.{end_behind, end_with_more, end_anew, ends_without}
