use Rattle.ss_core.proofs.Whole.{step_reachable, step_safe, step_receipts}
use Rattle.ss_core.proofs.transition.step.Goals as goal

pub returns-clause-reachable : goal.returns-clause-reachable
returns-clause-reachable c = step_reachable c.args.core c.args.event c.one_event.result c.one_event.ensures.ok c.one_event.ensures.err

pub returns-clause-safe : goal.returns-clause-safe
returns-clause-safe c = step_safe c.args.core c.args.event c.one_event.result c.one_event.ensures.ok c.one_event.ensures.err

pub returns-clause-receipts : goal.returns-clause-receipts
returns-clause-receipts c = step_receipts c.args.core c.args.event c.one_event.result c.one_event.ensures.ok c.one_event.ensures.err
