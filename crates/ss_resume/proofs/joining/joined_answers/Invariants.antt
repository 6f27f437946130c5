use Rattle.std.proofs.Common.{◌≡◌, ◌+◌, ◌≤◌, ◌++◌, length, vec_capacity}
use Rattle.ss_resume.specs.Pasts.{joined_lists}
use Rattle.ss_resume.proofs.joining.joined_answers.Given as goal

-- the clients so far, before those whose answers are left, and room for all
abbrev pub invariant-loop-earlier : goal.invariant-loop-earlier
invariant-loop-earlier l = record {
  so_far : l.all.items ++ joined_lists l.place l.earlier-iterator.rest.items l.left.rest.items ≡ joined_lists l.place l.fn.answers l.fn.further;
  many : length l.all.items + length l.earlier-iterator.rest.items ≡ length l.fn.answers;
  room : length l.fn.answers ≤ vec_capacity l.all;
}
