use Rattle.std.proofs.Common.{◌≡◌, rules, sym, ap, ◌∙◌, None, slice_get}
use Rattle.std.specs.FinMap as finmap
use Rattle.ss_model.specs.Contents.{table_at}
use Rattle.ss_model_computed.proofs.Stores.{missing, entries_none}
use Rattle.ss_model_computed.proofs.stored_rows.table_entries.Goals as goal

pub returns-in-None : goal.returns-in-None
unfolding table_at
returns-in-None c =
    let none : slice_get c.args.contents.now.tables c.args.table ≡ None = search rules in
    c.new.ensures ∙ sym (ap finmap.entries (missing c.args.contents.now.tables c.args.table none) ∙ entries_none)
