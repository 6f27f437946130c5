use Rattle.std.proofs.Common.{◌≡◌, ap, ◌∙◌, ℕ, List, Option, map}
use Rattle.std.specs.Prelude.{slice_get, length}
use Rattle.std.specs.List.{flat_map}
use Rattle.ss_value.specs.declared.schema.Column.{Column}
use Rattle.ss_sql_lex.specs.declared.tree.ColumnTree.{ColumnTree}
use Rattle.ss_sql_lex.specs.declared.tree.ItemTree.{ItemTree}
use Rattle.ss_sql_lex.specs.declared.tree.OrderTree.{OrderTree}
use Rattle.ss_sql_type.specs.declared.scope.Named.{Named}
use Rattle.ss_sql_type.specs.Refusals.{least_of}
use Rattle.ss_sql_type.specs.Items.{items_faults, item_limit_faults, test_faults, typed_groups, groups_faults, typed_order, order_faults}
use Rattle.ss_sql_type.specs.Queries.{source_id, unknown_faults, join_faults, grouped_columns, count_faults, wanted_columns, columns_shown}
use Rattle.ss_sql_type.proofs.Noted.{noted_twice}
use Rattle.ss_sql_type.proofs.QueryParts.{query_made}
use Rattle.ss_sql_type.proofs.query.query_within.Goals as goal

pub returns-clause-ok : goal.returns-clause-ok
returns-clause-ok c =
    let reach = c.args.names.now in
    let q = c.args.tree.now in
    query_made reach q c.in_ok-items.items c.source_id.result c.join_of-joined.result c.in_ok-test.test c.in_ok-groups.groups c.in_ok-order.order c.limit_of.result
    c.in_ok-items.ensures.ok
    (c.source_id.ensures ∙ ap source_id c.first-from.ensures)
    c.join_of-joined.ensures.join
    c.in_ok-test.ensures.ok
    (c.in_ok-groups.ensures.ok ∙ ap (λ (x : List ColumnTree). typed_groups reach x) c.as_slice.ensures)
    (c.in_ok-order.ensures.ok ∙ ap (λ (x : List OrderTree). map typed_order x) c.as_slice-3.ensures)
    c.limit_of.ensures

pub returns-clause-faults : goal.returns-clause-faults
returns-clause-faults c =
    let reach = c.args.names.now in
    let q = c.args.tree.now in
    let columns = columns_shown c.args.columns in
    let f0 = c.args.found.now in
    let f1 = c.check_known.new.found in
    let f2 = c.join_of-joined.new.found in
    let f3 = c.groups_of.new.found in
    let f4 = c.check_count.new.found in
    let f5 = c.grouped_items.new.found in
    let f6 = c.check_item_limit.new.found in
    let f7 = c.test_of.new.found in
    let f8 = c.order_of.new.found in
    let e1 : f1 ≡ least_of f0 (unknown_faults reach.first q.from.at) = c.check_known.ensures ∙ ap (λ (o : Option Named). least_of f0 (unknown_faults o q.from.at)) c.first-from.ensures in
    let e3 : f3 ≡ least_of f2 (groups_faults reach q.groups) = c.in_ok-groups.ensures.faults ∙ ap (λ (x : List ColumnTree). least_of f2 (groups_faults reach x)) c.as_slice.ensures in
    let e4 : f4 ≡ least_of f3 (count_faults columns (length q.items) c.args.at) = c.check_count.ensures ∙ ap (λ (n : ℕ). least_of f3 (count_faults columns n c.args.at)) c.len.ensures in
    let e5 : f5 ≡ least_of f4 (items_faults reach (grouped_columns reach q) (wanted_columns columns) q.items) = c.in_ok-items.ensures.faults ∙ ap (λ (x : List Column). least_of f4 (items_faults reach (grouped_columns reach q) x q.items)) c.wanted_columns.ensures in
    let e6 : f6 ≡ least_of f5 (item_limit_faults (slice_get q.items 16)) = c.check_item_limit.ensures ∙ ap (λ (x : List ItemTree). least_of f5 (item_limit_faults (slice_get x 16))) c.as_slice-2.ensures in
    let e8 : f8 ≡ least_of f7 (flat_map (order_faults (length q.items)) q.order) = c.in_ok-order.ensures.faults ∙ ap (λ (n : ℕ). least_of f7 (flat_map (order_faults n) c.as_slice-3.result.now)) c.len-2.ensures ∙ ap (λ (x : List OrderTree). least_of f7 (flat_map (order_faults (length q.items)) x)) c.as_slice-3.ensures in
    let g6 = noted_twice f6 f7 f8 (test_faults reach q.test) _ c.in_ok-test.ensures.faults e8 in
    let g5 = noted_twice f5 f6 f8 (item_limit_faults (slice_get q.items 16)) _ e6 g6 in
    let g4 = noted_twice f4 f5 f8 (items_faults reach (grouped_columns reach q) (wanted_columns columns) q.items) _ e5 g5 in
    let g3 = noted_twice f3 f4 f8 (count_faults columns (length q.items) c.args.at) _ e4 g4 in
    let g2 = noted_twice f2 f3 f8 (groups_faults reach q.groups) _ e3 g3 in
    let g1 = noted_twice f1 f2 f8 (join_faults reach q.from q.joined) _ c.join_of-joined.ensures.faults g2 in
    noted_twice f0 f1 f8 (unknown_faults reach.first q.from.at) _ e1 g1
