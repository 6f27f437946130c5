use Rattle.std.proofs.Common.{sym, subst, ◌∙◌, ap}
use Rattle.ss_sql_trees.specs.declared.typed.Expr.TheVariants.{Binary}
use Rattle.ss_rows.specs.Certainty.{AlwaysHasValue, AlwaysHasTest}
use Rattle.ss_rows.proofs.AlwaysHas.{unary_has, compare_has, both_have}
use Rattle.ss_rows.proofs.Lent.{lent_has}
use Rattle.ss_rows.proofs.never_aborts.+always_has_test.Goals as goal

pub returns-in-Unary : goal.returns-in-Unary
returns-in-Unary t c = λ has.
    let side = subst AlwaysHasTest c.get.ensures (c.always_has_test.ensures has) in
    subst AlwaysHasTest (sym c.in-Unary.is) (unary_has c.in-Unary.op c.in-Unary.side side)

pub returns-then-is_lent : goal.returns-then-is_lent
returns-then-is_lent t c = λ has.
    let b = c.in-Binary in
    let left = subst AlwaysHasValue c.get-in-Compare.ensures (lent_has _ (c.is_lent.ensures c.if-is_lent.true)) in
    let right = subst AlwaysHasValue c.get-then-is_lent.ensures (lent_has _ (c.is_lent-then-is_lent.ensures has)) in
    let is = b.is ∙ ap (λ op. Binary op b.left b.right) c.in-Compare.is in
    subst AlwaysHasTest (sym is) (compare_has b.left b.right c.in-Compare.field-0 left right)

pub returns-then-always_has_test : goal.returns-then-always_has_test
returns-then-always_has_test t c = λ has.
    let b = c.in-Binary in
    let left = subst AlwaysHasTest c.get-in-And.ensures (c.always_has_test-in-And.ensures c.if-always_has_test.true) in
    let right = subst AlwaysHasTest c.get-then-always_has_test.ensures (c.always_has_test-then-always_has_test.ensures has) in
    subst AlwaysHasTest (sym b.is) (both_have b.left b.right b.op c.in-And.is left right)
