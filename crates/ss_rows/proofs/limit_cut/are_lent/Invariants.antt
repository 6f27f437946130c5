use Rattle.std.proofs.Common.{take}
use Rattle.ss_rows.specs.Lent.{AreLent}
use Rattle.ss_rows.proofs.limit_cut.are_lent.Given as goal

abbrev pub invariant-loop-item : goal.invariant-loop-item
invariant-loop-item l = AreLent (take l.item-index l.items)
