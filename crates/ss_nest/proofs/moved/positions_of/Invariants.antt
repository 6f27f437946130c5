use Rattle.std.proofs.Common.{◌≡◌, map, take}
use Rattle.ss_model.specs.Nests.{position_of}
use Rattle.ss_nest.proofs.moved.positions_of.Given as goal

abbrev pub invariant-loop-input : goal.invariant-loop-input
invariant-loop-input l = l.positions ≡ map (λ s. position_of s l.reads) (take l.input-index l.inputs)
