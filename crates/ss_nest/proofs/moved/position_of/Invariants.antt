use Rattle.std.proofs.Common.{◌≡◌, ◌+◌, drop}
use Rattle.ss_model.specs.Nests.{position_of}
use Rattle.ss_nest.proofs.moved.position_of.Given as goal

abbrev pub invariant-loop-position : goal.invariant-loop-position
invariant-loop-position l = position_of l.stream (drop l.position l.reads) + l.position ≡ position_of l.stream l.reads
