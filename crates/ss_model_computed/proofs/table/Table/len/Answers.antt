use Rattle.std.proofs.Common.{sym, ap, ◌∙◌}
use Rattle.std.specs.FinMap as finmap
use Rattle.ss_model_computed.proofs.Stores.{len_in_order}
use Rattle.ss_model_computed.proofs.table.Table.len.Goals as goal

pub returns : goal.returns
returns c = c.len.ensures.len ∙ sym (len_in_order c.self.inside.rows.entries c.len.ensures.ordered) ∙ ap finmap.len c.self.view_is
