use Rattle.std.proofs.Common.{◌≡◌, ◌++◌, map, take}
use Rattle.ss_model.specs.Nests.{moved_step}
use Rattle.ss_nest.specs.Moves.{moved_by}
use Rattle.ss_nest.proofs.moved.add_moved.Given as goal

abbrev pub invariant-loop-step : goal.invariant-loop-step
invariant-loop-step l = l.joined ≡ l.fn.joined ++ map (moved_step (moved_by l.moves) l.inner) (take l.step-index l.body)
