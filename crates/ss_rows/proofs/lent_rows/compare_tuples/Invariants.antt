use Rattle.std.proofs.Common.{◌≡◌, drop}
use Rattle.ss_model.specs.Queries.{order_by_cmp}
use Rattle.ss_rows.specs.Lent.{lent_row}
use Rattle.ss_rows.proofs.lent_rows.compare_tuples.Given as goal

abbrev pub invariant-loop-listed : goal.invariant-loop-listed
invariant-loop-listed l =
    order_by_cmp (drop l.listed-index l.order) (lent_row l.params l.items l.a) (lent_row l.params l.items l.b) ≡ order_by_cmp l.order (lent_row l.params l.items l.a) (lent_row l.params l.items l.b)
