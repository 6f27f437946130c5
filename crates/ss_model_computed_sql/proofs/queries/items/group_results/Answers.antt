use Rattle.std.proofs.Common.{◌≡◌, ◌++◌, ◌∷◌, [], List, rules, Ok}
use Rattle.std.proofs.lemmas.Result.{err_from_is_err_and}
use Rattle.ss_value.specs.Rows.{Rows}
use Rattle.ss_model.specs.Results.{try_map}
use Rattle.ss_model.specs.Queries.{item_value}
use Rattle.ss_model.proofs.CallerLemmas.{maps_more, maps_stopped}
use Rattle.ss_model_computed_sql.proofs.queries.items.group_results.Goals as goal

pub returns-in_err-row-clause-stops : goal.returns-in_err-row-clause-stops
returns-in_err-row-clause-stops c =
    let p = err_from_is_err_and c.from_residual.result c.from_residual.ensures.1 in
    let row = λ (group : List Rows). try_map (item_value c.args.params.now group) c.args.items.now in
    rw (p.1, p.2) (maps_stopped row c.args.groups.now c.loop-group.group-index c.loop-group.rows c.loop-group.invariant c.group-item.result c.loop-group-test.true c.group-item.is
    _ (rw (← c.as_slice.ensures) c.in_err-row.ensures.stops))

pub loop-group-preserved : goal.loop-group-preserved
loop-group-preserved c =
    let row = λ (group : List Rows). try_map (item_value c.args.params.now group) c.args.items.now in
    let is : row c.group-item.result ≡ Ok c.in_ok-row.row = rw (← c.as_slice.ensures) c.in_ok-row.ensures.ok in
    let grown : c.push.new.self ≡ c.loop-group.rows ++ c.in_ok-row.row ∷ [] = search rules in
    maps_more row c.args.groups.now c.loop-group.group-index c.loop-group.rows c.loop-group.invariant c.group-item.result c.loop-group-test.true c.group-item.is
    c.in_ok-row.row c.push.new.self is grown
