use Rattle.std.proofs.Common.{◌≡◌, rules}
use Rattle.ss_proc.proofs.steps.run_step_on.Goals as goal

pub returns-in-ForEach : goal.returns-in-ForEach
returns-in-ForEach c =
    let body : c.as_slice.result.now ≡ c.in-ForEach.body = search rules in
    rw (c.in-ForEach.is, ← body) c.for_each_of.ensures

pub returns-in-AbortIf : goal.returns-in-AbortIf
returns-in-AbortIf c = search (rules, c.abort_if.ensures c.args.work.now)
