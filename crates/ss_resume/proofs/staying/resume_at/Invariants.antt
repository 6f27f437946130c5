use Rattle.std.proofs.Common.{◌≡◌, ◌+◌, drop}
use Rattle.ss_report_laws.specs.Resuming.{resume_at}
use Rattle.ss_resume.proofs.staying.resume_at.Given as goal

-- all answers so far stay
abbrev pub invariant-loop-number : goal.invariant-loop-number
invariant-loop-number l = resume_at l.place l.answers ≡ l.number + resume_at l.place (drop l.number l.answers)
