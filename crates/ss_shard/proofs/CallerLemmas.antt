-- What crates above may rely on: the lemmas of this crate that they cite.

-- The partitions that run, and a list of shards with one of them changed.
pub use Rattle.ss_shard.proofs.AllPartitions.{each_set, not_among}
-- The body that a procedure has on a shard and in what it stands for, and the bodies once one is installed.
pub use Rattle.ss_shard.proofs.Bodies.{own_texts, present_held, text_held, texts_with}
-- The rows of a table by key, and the live rows with their slots.
pub use Rattle.ss_shard.proofs.ByKey.{entries_by_key}
-- One change of a shard, noted.
pub use Rattle.ss_shard.proofs.Changing.{at_some, at_table}
-- How the rows of tables are dealt to parts, after changes of them.
pub use Rattle.ss_shard.proofs.Dealt.{dealt_after, dealt_same, still_dealt}
-- What an insert of a row is to the model.
pub use Rattle.ss_shard.proofs.Inserting.{same_key}
-- A database before the first execution.
pub use Rattle.ss_shard.proofs.OpeningLemmas.{no_entries, no_row_entries}
-- The next numbers of one stream among those of all.
pub use Rattle.ss_shard.proofs.Placed.{alike_again}
-- Shards between executions.
pub use Rattle.ss_shard.proofs.Committing.{of_same, starts_here}
-- The tables of a catalogue.
pub use Rattle.ss_shard.proofs.Shapes.{still_tables, table_of, table_there_is, window_of}
-- What a unit more of a window is to the model.
pub use Rattle.ss_shard.proofs.Staging.{all_count, def_there, units_there}
-- A shard stands for its own tables and windows, and with them for all that keep the same.
pub use Rattle.ss_shard.proofs.Standing.{carried, gone_past}
-- The tables of a shard with one of them changed.
pub use Rattle.ss_shard.proofs.Tables.{contents_put, contents_taken, table_there}
-- A table has as many rows as are lent of it.
pub use Rattle.ss_shard.proofs.Walking.{rows_counted}
