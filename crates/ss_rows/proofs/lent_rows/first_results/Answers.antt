use Rattle.std.proofs.Common.{◌≡◌, List, IfOk, ◌∙◌, subst}
use Rattle.ss_value.specs.Rows.{Rows}
use Rattle.ss_sql_trees.specs.declared.typed.OrderBy.{OrderBy}
use Rattle.ss_sql_trees.specs.declared.typed.SelectItem.{SelectItem}
use Rattle.ss_model.specs.Queries.{order_by_cmp, sort_rows}
use Rattle.ss_rows.specs.Lent.{lent_rows}
use Rattle.ss_rows.proofs.Lent.{first_ones}
use Rattle.ss_rows.proofs.lent_rows.first_results.Goals as goal

pub returns : goal.returns
returns c =
    let q = c.args.query.now in
    let params = c.args.params.now in
    let found = c.args.found.items in
    let sorted = c.in_ok-sorted.sorted.items in
    let by_items = subst (λ (items : List SelectItem). lent_rows params items sorted ≡ sort_rows (order_by_cmp c.as_slice.result.now) (lent_rows params items found)) c.as_slice-items.ensures c.in_ok-sorted.ensures in
    let by_order = subst (λ (order : List OrderBy). lent_rows params q.items sorted ≡ sort_rows (order_by_cmp order) (lent_rows params q.items found)) c.as_slice.ensures by_items in
    let tuples = c.as_slice-2.ensures.value ∙ c.truncate.ensures.items in
    let same = (λ j. lent_rows params (c.as_slice-items.ensures j) (tuples j)) ∙ first_ones params q found sorted by_order c.args.count c.requires.0 in
    subst (λ (all : Rows). IfOk c.rows_of.result (λ rows. rows ≡ all)) same c.rows_of.ensures
