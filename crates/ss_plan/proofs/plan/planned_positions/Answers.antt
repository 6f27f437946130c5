use Rattle.ss_sql_trees.specs.declared.typed.SourceId.TheVariants.{Table as FromTable}
use Rattle.ss_plan.specs.Found.{rows_found}
use Rattle.ss_plan.specs.Plans.{seen_in, RowsAreEnough}
use Rattle.ss_plan.proofs.Finding.{some_holds, same_passes, positions_of_all, stops_of_all}
use Rattle.ss_plan.proofs.plan.planned_positions.Goals as goal

pub returns-in-Some-clause-ok : goal.returns-in-Some-clause-ok
returns-in-Some-clause-ok c =
    let source = FromTable c.args.table in
    let enough = some_holds (RowsAreEnough c.args.from source c.args.params.now c.args.test.now) c.in_ok-planned_rows.field-0 c.in-Some.found c.in-Some.is c.in_ok-planned_rows.ensures in
    positions_of_all c.args.params.now c.args.test.now (seen_in c.args.from source) (rows_found c.in-Some.found) enough c.those_passing.result c.those_passing.ensures.ok

pub returns-in-Some-clause-stops : goal.returns-in-Some-clause-stops
returns-in-Some-clause-stops c =
    let source = FromTable c.args.table in
    let enough = some_holds (RowsAreEnough c.args.from source c.args.params.now c.args.test.now) c.in_ok-planned_rows.field-0 c.in-Some.found c.in-Some.is c.in_ok-planned_rows.ensures in
    stops_of_all _ _ (same_passes c.args.params.now c.args.test.now (seen_in c.args.from source) (rows_found c.in-Some.found) enough) c.those_passing.result c.those_passing.ensures.stops
