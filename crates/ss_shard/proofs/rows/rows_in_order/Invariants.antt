use Rattle.std.proofs.Common.{◌-◌, length}
use Rattle.std.specs.FinMap as finmap
use Rattle.ss_table.specs.Near.{without_hint}
use Rattle.ss_shard.proofs.Walking.{Walked}
use Rattle.ss_shard.proofs.rows.rows_in_order.Given as goal

abbrev pub invariant-loop-at : goal.invariant-loop-at
invariant-loop-at l = Walked (finmap.entries l.table.live) (without_hint l.at) l.rows.items

abbrev pub decreases-loop-at : goal.decreases-loop-at
decreases-loop-at l = length (finmap.entries l.table.live) - length l.rows.items
