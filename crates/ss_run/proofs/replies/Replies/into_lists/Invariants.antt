use Rattle.std.proofs.Common.{◌≡◌, ◌≤◌, ◌++◌, map, length}
use Rattle.ss_run.specs.Replies.{ReservedAnswers}
use Rattle.ss_run.proofs.replies.Replies.into_lists.Given as goal

abbrev pub invariant-loop-replies : goal.invariant-loop-replies
invariant-loop-replies l = record {
  lists : l.lists.items ++ map (λ (s : ReservedAnswers). s.answers) l.replies-iterator.rest.items ≡ l.fn.self.answers;
  room : length l.replies-iterator.rest.items ≤ l.lists.spare;
}
