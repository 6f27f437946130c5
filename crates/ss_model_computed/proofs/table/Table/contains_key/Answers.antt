use Rattle.std.proofs.Common.{sym, ap, ◌∙◌, is_some}
use Rattle.std.specs.FinMap as finmap
use Rattle.ss_model_computed.proofs.Stores.{get_row}
use Rattle.ss_model_computed.proofs.table.Table.contains_key.Goals as goal

pub returns : goal.returns
returns c = c.contains_key.ensures ∙ ap is_some (sym (get_row c.self.inside.rows.entries c.args.key.now)) ∙ ap (λ t. finmap.contains_key t c.args.key.now) c.self.view_is
