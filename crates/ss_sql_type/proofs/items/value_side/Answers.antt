use Rattle.std.proofs.Common.{refl, None, ap, ◌∙◌}
use Rattle.ss_sql_type.specs.declared.scope.TypeError.TheVariants.{WrongType}
use Rattle.ss_sql_type.specs.declared.kinds.Needs.TheVariants.{Value}
use Rattle.ss_sql_type.specs.Kinds.{fits, value_kind}
use Rattle.ss_sql_type.specs.Expressions.{typed_expr, expr_faults}
use Rattle.ss_sql_type.proofs.Noted.{check_noted}
use Rattle.ss_sql_type.proofs.items.value_side.Goals as goal

pub returns-clause-faults : goal.returns-clause-faults
returns-clause-faults c =
    let t = typed_expr c.args.names.now None c.args.side.now in
    check_noted c.args.found.now c.expr_at.new.found c.check.new.found (expr_faults c.args.names.now None Value c.args.side.now) c.fits.result (fits c.args.needs (value_kind t.kind)) (WrongType c.args.at) (WrongType c.args.at) c.in_ok-typed.ensures.faults (c.fits.ensures ∙ ap (fits c.args.needs) (c.value_kind.ensures ∙ ap value_kind c.in_ok-typed.ensures.ok.1)) refl c.check.ensures
