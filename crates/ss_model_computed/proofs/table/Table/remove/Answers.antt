use Rattle.std.proofs.Common.{ap, ◌∙◌}
use Rattle.std.specs.FinMap as finmap
use Rattle.ss_model_computed.proofs.Stores.{row_taken}
use Rattle.ss_model_computed.proofs.table.Table.remove.Goals as goal

pub returns : goal.returns
returns c = row_taken c.self.inside.rows.entries c.remove-row.new.self.entries c.args.key.now c.remove-row.ensures.updates.0 ∙ ap (λ t. finmap.remove t c.args.key.now) c.self.view_is
