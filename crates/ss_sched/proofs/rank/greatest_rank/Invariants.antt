use Rattle.std.proofs.Common.{◌≡◌, drop, max, get_or}
use Rattle.std.specs.List.{fold}
use Rattle.ss_sched.proofs.rank.greatest_rank.Given as goal

abbrev pub invariant-loop-stream : goal.invariant-loop-stream
invariant-loop-stream l =
    fold (λ most s. max most (get_or l.ranks (get_or l.emitters s 0) 0)) l.most (drop l.stream-index l.inputs) ≡ fold (λ most s. max most (get_or l.ranks (get_or l.emitters s 0) 0)) 0 l.inputs
