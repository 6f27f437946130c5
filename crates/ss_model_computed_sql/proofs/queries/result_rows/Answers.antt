use Rattle.std.proofs.Common.{◌≡◌, List, IfErr, ap, ◌∙◌, subst}
use Rattle.ss_value.specs.Rows.{Rows}
use Rattle.ss_sql_trees.specs.declared.typed.SelectItem.{SelectItem}
use Rattle.ss_sql_trees.specs.WellTyped.{query_aggregated}
use Rattle.ss_model.specs.Results.{OrAbort, try_map}
use Rattle.ss_model.specs.Queries.{query_groups, item_value}
use Rattle.ss_model.specs.Stops.{StopsAs}
use Rattle.ss_model_computed_sql.specs.Phases.{results_of}
use Rattle.ss_model_computed_sql.proofs.queries.result_rows.Goals as goal

pub returns-clause-stops : goal.returns-clause-stops
returns-clause-stops c =
    let q = c.args.query.now in
    let params = c.args.params.now in
    let found = c.args.found.now in
    let groups = c.as_slice-3.ensures ∙ c.in_ok-groups.ensures ∙ ap (λ b. query_groups b c.as_slice.result.now found) c.is_aggregated.ensures ∙ ap (λ cs. query_groups (query_aggregated q) cs found) c.as_slice.ensures in
    let same : try_map (λ group. try_map (item_value params group) c.as_slice-2.result.now) c.as_slice-3.result.now ≡ results_of params q found =
    ap (try_map (λ group. try_map (item_value params group) c.as_slice-2.result.now)) groups
    ∙ ap (λ (items : List SelectItem). try_map (λ group. try_map (item_value params group) items) (query_groups (query_aggregated q) q.groups found)) c.as_slice-2.ensures in
    subst (λ (meaning : OrAbort Rows). IfErr c.group_results.result (λ stop. StopsAs meaning stop)) same c.group_results.ensures.stops
