use Rattle.std.proofs.Common.{sym, subst}
use Rattle.ss_rows.specs.Lent.{IsLent}
use Rattle.ss_rows.proofs.Lent.{literal_lent, param_lent, column_lent}
use Rattle.ss_rows.proofs.never_aborts.is_lent.Goals as goal

pub returns-in-Lit : goal.returns-in-Lit
returns-in-Lit c = λ _. subst IsLent (sym c.in-Lit.is) (literal_lent c.in-Lit.field-0)

pub returns-in-Param : goal.returns-in-Param
returns-in-Param c = λ _. subst IsLent (sym c.in-Param.is) (param_lent c.in-Param.field-0)

pub returns-in-Col : goal.returns-in-Col
returns-in-Col c = λ _. subst IsLent (sym c.in-Col.is) (column_lent c.in-Col.source c.in-Col.column)
