use Rattle.std.proofs.Common.{refl, None, Some}
use Rattle.ss_sql_type.specs.declared.scope.TypeError.TheVariants.{WrongType}
use Rattle.ss_sql_type.specs.declared.kinds.Needs.TheVariants.{Only}
use Rattle.ss_sql_type.specs.declared.kinds.ValueKind.TheVariants.{Int}
use Rattle.ss_sql_type.specs.Kinds.{fits}
use Rattle.ss_sql_type.specs.Expressions.{expr_faults}
use Rattle.ss_sql_type.proofs.Noted.{check_noted}
use Rattle.ss_sql_type.proofs.items.sum_side.Goals as goal

pub returns-clause-faults : goal.returns-clause-faults
returns-clause-faults c =
    check_noted c.args.found.now c.expr_at.new.found c.check.new.found (expr_faults c.args.names.now None (Only Int) c.args.side.now) c.fits.result (fits c.args.needs (Some Int)) (WrongType c.args.at) (WrongType c.args.at) c.in_ok-typed.ensures.faults c.fits.ensures refl c.check.ensures
