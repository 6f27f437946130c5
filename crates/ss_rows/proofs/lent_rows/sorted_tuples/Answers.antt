use Rattle.std.proofs.Common.{rules, is_lt}
use Rattle.std.proofs.lemmas.List.Sorted.{ranks_by}
use Rattle.std.proofs.lemmas.Fn.{always_returns_same}
use Rattle.ss_model.specs.Queries.{order_by_cmp}
use Rattle.ss_rows.specs.Lent.{lent_row}
use Rattle.ss_rows.specs.declared.tuple.Tuple.{Tuple}
use Rattle.ss_rows.proofs.Sorting.{rows_sorted, order_by_total}
use Rattle.ss_rows.proofs.lent_rows.sorted_tuples.Goals as goal

pub returns : goal.returns
returns c =
    let row = lent_row c.args.params.now c.args.items.now in
    let cmp = order_by_cmp c.args.order.now in
    let total = order_by_total c.args.order.now in
    let lt = λ (a b : Tuple). is_lt (cmp (row a) (row b)) in
    let weak = ranks_by total row in
    let sorted = c.in_ok-sort_by.ensures.sorted lt weak (always_returns_same _ _ _ (λ a r f k. search rules)) in
    let stable = c.sort_by.ensures.stable lt weak (always_returns_same _ _ _ (λ a r f k. search rules)) in
    rows_sorted row cmp total c.args.found.items c.sort_by.new.self.items sorted stable
