use Rattle.std.proofs.Common.{◌≡◌, map, take}
use Rattle.ss_model.specs.Nests.{moved_inner}
use Rattle.ss_nest.specs.Moves.{moved_by}
use Rattle.ss_nest.proofs.moved.moved_inners.Given as goal

abbrev pub invariant-loop-inner : goal.invariant-loop-inner
invariant-loop-inner l = l.moved ≡ map (moved_inner (moved_by l.moves)) (take l.inner-index l.body)
