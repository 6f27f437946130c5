-- The order of two values by a listed item of ORDER BY.
use Rattle.std.specs.Prelude.{cond}
use Rattle.std.specs.declared.cmp.Ordering.{Ordering}
use Rattle.std.specs.declared.cmp.Ordering.TheVariants.{Equal}
use Rattle.std.specs.Ordering.{ordering_then, ordering_reverse}
use Rattle.ss_value.specs.declared.value.Value.{Value}
use Rattle.ss_value.specs.Order.{value_cmp}
use Rattle.ss_sql_trees.specs.declared.typed.OrderBy.{OrderBy}

-- ascending or descending; the list ends with this item
abbrev pub listed_cmp : OrderBy → Value → Value → Ordering
listed_cmp order a b = ordering_then (cond order.descending (ordering_reverse (value_cmp a b)) (value_cmp a b)) Equal
