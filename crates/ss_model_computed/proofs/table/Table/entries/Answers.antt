use Rattle.std.proofs.Common.{◌≡◌, rules, sym, ap, ◌∙◌}
use Rattle.std.specs.FinMap as finmap
use Rattle.ss_model_computed.proofs.Stores.{entries_in_order}
use Rattle.ss_model_computed.proofs.table.Table.entries.Goals as goal

pub returns : goal.returns
returns c =
    let all : c.loop-key.entries ≡ c.self.inside.rows.entries = search rules in
    all ∙ sym (entries_in_order c.self.inside.rows.entries c.iter-key-items.ensures.ordered) ∙ ap finmap.entries c.self.view_is
