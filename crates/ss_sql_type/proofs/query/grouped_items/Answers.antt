use Rattle.std.proofs.Common.{◌≡◌, IfOk, Bool, true, sym, ap, ◌∙◌, subst, List, Option, Some, None, map, if◌then◌else◌}
use Rattle.ss_sql_lex.specs.declared.tree.ItemTree.{ItemTree}
use Rattle.ss_sql_trees.specs.declared.typed.ColAt.{ColAt}
use Rattle.ss_sql_type.specs.Items.{typed_item, typed_groups}
use Rattle.ss_sql_type.specs.Queries.{is_aggregated, grouped_columns}
use Rattle.ss_sql_type.proofs.query.grouped_items.Goals as goal

pub returns-in_ok-grouped-clause-ok : goal.returns-in_ok-grouped-clause-ok
returns-in_ok-grouped-clause-ok c =
    let reach = c.args.names.now in
    let q = c.args.tree.now in
    let aggregated : is_aggregated q ≡ true = sym c.is_aggregated.ensures ∙ c.if-is_aggregated.true in
    let groups : c.in_ok-grouped.grouped ≡ typed_groups reach q.groups = c.in_ok-grouped.ensures ∙ c.as_slice.ensures ∙ c.requires.groups in
    let columns : Some c.in_ok-grouped.grouped ≡ grouped_columns reach q = ap Some groups ∙ sym (ap (λ (b : Bool). if b then Some (typed_groups reach q.groups) else None) aggregated) in
    subst
    (λ (g : Option (List ColAt)). IfOk c.items_of.result (λ items. items ≡ map (typed_item reach g) q.items))
    columns
    (subst (λ (l : List ItemTree). IfOk c.items_of.result (λ items. items ≡ map (typed_item reach (Some c.in_ok-grouped.grouped)) l)) c.as_slice-items.ensures c.items_of.ensures.ok)
