use Rattle.std.proofs.Common.{◌++◌, map, take}
use Rattle.ss_names.specs.Names.{AreSameNames}
use Rattle.ss_names.proofs.set.add_all.Given as goal

abbrev pub invariant-loop-item : goal.invariant-loop-item
invariant-loop-item g l = AreSameNames l.names (l.fn.names ++ map g.T.Named.name (take l.item-index l.items))
