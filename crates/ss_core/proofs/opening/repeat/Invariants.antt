use Rattle.std.proofs.Common.{◌≡◌, replicate}
use Rattle.ss_core.proofs.opening.repeat.Given as goal

abbrev pub invariant-loop : goal.invariant-loop
invariant-loop g l = l.items ≡ replicate l.counter l.item
