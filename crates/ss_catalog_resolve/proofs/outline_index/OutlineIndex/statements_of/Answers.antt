use Rattle.std.proofs.Common.{◌∙◌, ap}
use Rattle.ss_sql_type.specs.declared.scope.Scope.{Scope}
use Rattle.ss_sql_type.specs.Queries.{scope_narrow}
use Rattle.ss_catalog_resolve.proofs.Narrow.{narrow_trigger}
use Rattle.ss_catalog_resolve.proofs.outline_index.OutlineIndex.statements_of.Goals as goal

pub read_in_order-requires-clause-narrow : goal.read_in_order-requires-clause-narrow
read_in_order-requires-clause-narrow c = ap (λ (s : Scope). scope_narrow s) c.in_ok-enter_trigger.ensures ∙ narrow_trigger c.args.self.now.outline.now c.args.self.now.few c.args.on
