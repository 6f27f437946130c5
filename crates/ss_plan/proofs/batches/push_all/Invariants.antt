use Rattle.std.proofs.Common.{◌≡◌, ◌++◌, map, take}
use Rattle.ss_plan.proofs.batches.push_all.Given as goal

abbrev pub invariant-loop-rows : goal.invariant-loop-rows
invariant-loop-rows l = l.batches ≡ l.fn.batches ++ map (λ rows. rows.now) (take l.rows-index l.more)
