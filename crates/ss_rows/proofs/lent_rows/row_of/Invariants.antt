use Rattle.std.proofs.Common.{◌≡◌, ◌++◌, map, drop}
use Rattle.ss_rows.specs.Tuples.{tuple_of}
use Rattle.ss_rows.specs.Lent.{lent_item}
use Rattle.ss_rows.proofs.lent_rows.row_of.Given as goal

abbrev pub invariant-loop-item : goal.invariant-loop-item
invariant-loop-item l = l.row ++ map (lent_item l.params (tuple_of l.here)) (drop l.item-index l.items) ≡ map (lent_item l.params (tuple_of l.here)) l.items
