use Rattle.std.proofs.Common.{◌≡◌, ◌++◌, drop}
use Rattle.ss_plan.specs.Ranges.{range_end}
use Rattle.ss_plan.proofs.range.range_end.Given as goal

-- what the columns that are left give stands behind the values so far
abbrev pub invariant-loop-column : goal.invariant-loop-column
invariant-loop-column l = l.values ++ range_end l.end l.schema l.params l.test (drop l.column-index l.columns) ≡ range_end l.end l.schema l.params l.test l.columns
