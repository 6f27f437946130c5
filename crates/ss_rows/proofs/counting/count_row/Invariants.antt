use Rattle.std.proofs.Common.{◌≡◌, replicate, pos}
use Rattle.ss_value.specs.declared.value.Value.TheVariants.{Int}
use Rattle.ss_rows.proofs.counting.count_row.Given as goal

abbrev pub invariant-loop : goal.invariant-loop
invariant-loop l = l.row ≡ replicate l.counter (Int (pos l.count))
