use Rattle.std.proofs.Common.{◌≡◌, map, take}
use Rattle.ss_names.specs.Names.{bytes_behind}
use Rattle.ss_names.proofs.index.names_behind.Given as goal

abbrev pub invariant-loop-item : goal.invariant-loop-item
invariant-loop-item g l = bytes_behind l.names.items ≡ map g.T.Named.name (take l.item-index l.items)
