use Rattle.std.proofs.Common.{◌≡◌, ◌≤◌, ◌<◌, ◌+◌, ℕ, [], map, length, replicate, get_or}
use Rattle.ss_report_laws.specs.Replies.{requests_of}
use Rattle.ss_run.specs.Replies.{ReservedAnswers}
use Rattle.ss_run.proofs.replies.Replies.new.Given as goal

abbrev pub invariant-loop-client : goal.invariant-loop-client
invariant-loop-client l = record {
  answers : map (λ (s : ReservedAnswers). s.answers) l.clients.items ≡ replicate l.client [];
  spares : (k : ℕ) → k < l.client → length (requests_of k l.requests) ≤ get_or (map (λ (s : ReservedAnswers). s.spare) l.clients.items) k 0;
  long : length l.clients.items ≡ l.client;
  room : 8 ≤ l.client + l.clients.spare;
}
