use Rattle.ss_sched.proofs.Hints.{no_marks}
use Rattle.ss_sched.proofs.inbox.no_marks.Goals as goal

pub returns : goal.returns
returns c = no_marks
