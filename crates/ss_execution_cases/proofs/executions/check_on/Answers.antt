use Rattle.ss_execution_cases.proofs.executions.check_on.Goals as goal

pub loop-line-init : goal.loop-line-init
loop-line-init c = c.in_ok-database.ensures.is_whole.parts.committed
