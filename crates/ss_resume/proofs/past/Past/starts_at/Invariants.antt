use Rattle.std.proofs.Common.{◌≡◌, ◌≤◌, length, map, take, vec_capacity}
use Rattle.ss_report_laws.specs.Resuming.{resume_at}
use Rattle.ss_resume.proofs.past.Past.starts_at.Given as goal

-- the numbers of the first clients, and room for all
abbrev pub invariant-loop-answers : goal.invariant-loop-answers
invariant-loop-answers l = record {
  so_far : l.starts.items ≡ map (resume_at l.place) (take l.answers-index l.self.answers);
  many : length l.starts.items ≡ l.answers-index;
  room : length l.self.answers ≤ vec_capacity l.starts;
}
