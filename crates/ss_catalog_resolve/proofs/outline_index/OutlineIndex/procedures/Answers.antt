use Rattle.std.proofs.Common.{◌∙◌, ap, subst, List}
use Rattle.std.specs.List.{Contains}
use Rattle.ss_catalog_outline.specs.declared.types.ProcedureOutline.{ProcedureOutline}
use Rattle.ss_sql_type.specs.declared.scope.Scope.{Scope}
use Rattle.ss_sql_type.specs.Queries.{scope_narrow}
use Rattle.ss_catalog_resolve.proofs.Narrow.{narrow_shared, short_args}
use Rattle.ss_catalog_resolve.proofs.outline_index.OutlineIndex.procedures.Goals as goal

pub read_in_order-requires-clause-narrow : goal.read_in_order-requires-clause-narrow
read_in_order-requires-clause-narrow c = ap (λ (s : Scope). scope_narrow s) c.requires ∙ narrow_shared c.args.self.now.outline.now c.args.self.now.few

pub read_in_order-requires-clause-taken : goal.read_in_order-requires-clause-taken
read_in_order-requires-clause-taken c item there =
    short_args c.args.self.now.outline.now c.args.self.now.few item (subst (λ (items : List ProcedureOutline). Contains items item) c.as_slice.ensures there)
