use Rattle.std.proofs.Common.{◌≡◌, None, subst}
use Rattle.ss_value.specs.Rows.{Row}
use Rattle.ss_rows.specs.Frames.{params_of}
use Rattle.ss_plan.specs.Plans.{seen_in, RowsAreEnough}
use Rattle.ss_plan.specs.declared.found.FoundRows.{FoundRows}
use Rattle.ss_plan.proofs.Finding.{some_holds, found_query, ok_of_all, stops_of_all}
use Rattle.ss_plan.proofs.query.planned_query.Goals as goal

pub returns-in-Some-clause-ok : goal.returns-in-Some-clause-ok
returns-in-Some-clause-ok c =
    let q = c.args.query.now in
    let found = c.in-Some.found in
    let alone = some_holds (λ (rows : FoundRows). q.joined ≡ None) c.in_ok-rows_of_query.field-0 found c.in-Some.is c.in_ok-rows_of_query.ensures.ok in
    let enough = some_holds (RowsAreEnough c.args.from q.from c.params.result.now q.test) c.in_ok-rows_of_query.field-0 found c.in-Some.is c.in_ok-rows_of_query.ensures.enough in
    let of_frame = subst (λ (params : Row). RowsAreEnough c.args.from q.from params q.test found) c.params.ensures enough in
    ok_of_all _ _ (found_query (seen_in c.args.from) found (params_of c.args.frame.now) q alone of_frame) c.run_query-in-Some.result c.run_query-in-Some.ensures.ok

pub returns-in-Some-clause-stops : goal.returns-in-Some-clause-stops
returns-in-Some-clause-stops c =
    let q = c.args.query.now in
    let found = c.in-Some.found in
    let alone = some_holds (λ (rows : FoundRows). q.joined ≡ None) c.in_ok-rows_of_query.field-0 found c.in-Some.is c.in_ok-rows_of_query.ensures.ok in
    let enough = some_holds (RowsAreEnough c.args.from q.from c.params.result.now q.test) c.in_ok-rows_of_query.field-0 found c.in-Some.is c.in_ok-rows_of_query.ensures.enough in
    let of_frame = subst (λ (params : Row). RowsAreEnough c.args.from q.from params q.test found) c.params.ensures enough in
    stops_of_all _ _ (found_query (seen_in c.args.from) found (params_of c.args.frame.now) q alone of_frame) c.run_query-in-Some.result c.run_query-in-Some.ensures.stops
