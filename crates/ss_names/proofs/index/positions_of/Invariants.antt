use Rattle.std.proofs.Common.{take}
use Rattle.ss_names.specs.Names.{bytes_behind}
use Rattle.ss_names.specs.Hashed.{IsIndexOf}
use Rattle.ss_names.proofs.index.positions_of.Given as goal

abbrev pub invariant-loop-at : goal.invariant-loop-at
invariant-loop-at l = IsIndexOf (bytes_behind (take l.at l.names)) l.positions
