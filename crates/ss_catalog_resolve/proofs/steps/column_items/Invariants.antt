use Rattle.std.proofs.Common.{◌≡◌, map}
use Rattle.std.specs.List.{range_with_len}
use Rattle.ss_catalog_resolve.specs.Steps.{column_item}
use Rattle.ss_catalog_resolve.proofs.steps.column_items.Given as goal

abbrev pub invariant-loop-column : goal.invariant-loop-column
invariant-loop-column l = l.items ≡ map column_item (range_with_len 0 l.column)
