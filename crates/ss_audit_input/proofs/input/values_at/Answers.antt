use Rattle.std.proofs.Common.{arith}
use Rattle.std.proofs.lemmas.Result.{err_from_is_err_and}
use Rattle.ss_audit_input.proofs.Reports.{valueless_at, values_more, values_whole}
use Rattle.ss_audit_input.proofs.input.values_at.Goals as goal

pub returns-in_err-value_there-clause-refused : goal.returns-in_err-value_there-clause-refused
returns-in_err-value_there-clause-refused c =
    let p = err_from_is_err_and c.from_residual.result c.from_residual.ensures.1 in
    rw (p.1, p.2) (valueless_at c.args.lines.now c.loop-line.line-index c.line-item.result _ c.loop-line-test.true c.line-item.is c.loop-line.invariant c.in_err-value_there.ensures.refused)

pub loop-line-preserved : goal.loop-line-preserved
loop-line-preserved c = values_more c.args.lines.now c.loop-line.line-index c.line-item.result c.loop-line-test.true c.line-item.is c.loop-line.invariant c.in_ok-value_there.ensures.ok

pub returns-clause-ok : goal.returns-clause-ok
returns-clause-ok c = values_whole c.args.lines.now c.loop-line.line-index (omega (arith, c.loop-line-test.false)) c.loop-line.invariant
