use Rattle.std.proofs.Common.{◌∙◌, ap, None}
use Rattle.ss_sql_type.specs.declared.scope.Scope.{Scope}
use Rattle.ss_sql_type.specs.Queries.{scope_narrow}
use Rattle.ss_catalog_resolve.proofs.Narrow.{narrow_procedure}
use Rattle.ss_catalog_resolve.proofs.insert_steps.Body.steps.Goals as goal

pub read_in_order-requires-clause-narrow : goal.read_in_order-requires-clause-narrow
read_in_order-requires-clause-narrow c =
    let body = c.args.self.now in
    let names = body.names.now in
    ap (λ (s : Scope). scope_narrow s) c.in_ok-enter_procedure.ensures ∙ narrow_procedure names.outline.now names.few c.args.inputs.now body.procedure.now.args None body.short
