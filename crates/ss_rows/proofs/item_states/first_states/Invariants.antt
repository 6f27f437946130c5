use Rattle.std.proofs.Common.{[], take}
use Rattle.ss_value.specs.Rows.{Row}
use Rattle.ss_rows.specs.Folds.{AreStatesOf}
use Rattle.ss_rows.proofs.item_states.first_states.Given as goal

abbrev pub invariant-loop-item : goal.invariant-loop-item
invariant-loop-item l = (params : Row) → AreStatesOf params (take l.item-index l.items) [] l.states.items
