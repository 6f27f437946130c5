use Rattle.std.proofs.Common.{ap, ◌∙◌}
use Rattle.ss_sql_type.specs.declared.scope.TypeError.TheVariants.{WrongType}
use Rattle.ss_sql_type.specs.Kinds.{fits}
use Rattle.ss_sql_type.specs.Expressions.{typed_expr, grouping}
use Rattle.ss_sql_type.proofs.Noted.{check_noted}
use Rattle.ss_sql_type.proofs.expr.expr_at.Goals as goal

pub returns-clause-faults : goal.returns-clause-faults
returns-clause-faults c =
    let t = typed_expr c.args.names.now (grouping c.args.grouped) c.args.tree.now in
    check_noted c.args.found.now c.expr_of.new.found c.check.new.found t.faults c.fits.result (fits c.args.needs t.kind) (WrongType c.in_ok-typed.typed.at) (WrongType t.at) c.in_ok-typed.ensures.faults (c.fits.ensures ∙ ap (fits c.args.needs) c.in_ok-typed.ensures.ok.1) (ap WrongType c.in_ok-typed.ensures.ok.2) c.check.ensures
