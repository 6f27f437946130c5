use Rattle.std.proofs.Common.{◌≡◌, [], replicate}
use Rattle.ss_model_computed.proofs.lists.empty_lists.Given as goal

abbrev pub invariant-loop : goal.invariant-loop
invariant-loop g l = l.lists ≡ replicate l.counter []
