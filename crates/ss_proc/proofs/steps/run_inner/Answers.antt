use Rattle.std.proofs.Common.{rules}
use Rattle.ss_proc.proofs.steps.run_inner.Goals as goal

pub returns-in-AbortIf : goal.returns-in-AbortIf
returns-in-AbortIf c = search (rules, c.abort_if.ensures c.args.work.now)
