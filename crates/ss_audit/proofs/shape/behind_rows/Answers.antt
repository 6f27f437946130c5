use Rattle.std.proofs.Common.{◌≡◌, ◌∙◌, true, sym, ap, arith}
use Rattle.ss_audit_laws.specs.Shape.{is_row_of, behind_rows}
use Rattle.ss_audit.proofs.Steps.{row_more}
use Rattle.ss_audit.proofs.shape.behind_rows.Goals as goal

pub loop-left-preserved : goal.loop-left-preserved
loop-left-preserved c =
    let test = c.if-not-branch.false in
    let told = c.in_ok-is_row_of.ensures in
    let is : is_row_of c.args.name.now c.in-Some.line.now ≡ true = grind arith in
    sym (row_more c.args.end c.args.name.now c.loop-left.left c.in-Some.line.now c.in-Some.behind.now c.loop-left-test.true is)
    ∙ sym (ap (behind_rows c.args.end c.args.name.now c.loop-left.left) c.in-Some.ensures.cases.0)
    ∙ c.loop-left.invariant
