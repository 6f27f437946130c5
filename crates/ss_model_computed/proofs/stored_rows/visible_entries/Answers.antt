use Rattle.ss_model.specs.Contents.{table_at, matches_split, visible_table}
use Rattle.ss_model_computed.specs.State.{contents_of, context_of}
use Rattle.ss_model_computed.proofs.Stores.{entries_seen}
use Rattle.ss_model_computed.proofs.stored_rows.visible_entries.Goals as goal

pub returns : goal.returns
unfolding visible_table
returns c =
    let context = context_of c.args.context.now in
    rw (entries_seen (table_at (contents_of c.args.contents.now) c.args.table) (matches_split context.catalog context.split_value c.args.table), ← c.in_ok-entries.ensures) c.seen_entries.ensures
