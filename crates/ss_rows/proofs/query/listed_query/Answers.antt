use Rattle.std.proofs.Common.{◌≡◌, List, Ok, subst}
use Rattle.std.proofs.lemmas.Result.{err_from_is_err_and}
use Rattle.ss_sql_trees.specs.declared.typed.SourceId.{SourceId}
use Rattle.ss_model.specs.Stops.{StopsAs}
use Rattle.ss_rows.specs.Lent.{lent_rows}
use Rattle.ss_rows.specs.Meaning.{results_of}
use Rattle.ss_rows.specs.Sources.{rows_in}
use Rattle.ss_rows.specs.Tuples.{tuples_of}
use Rattle.ss_rows.specs.declared.tuple.Tuple.{Tuple}
use Rattle.ss_rows.proofs.Enough.{stops_at_where, stops_at_items, rows_are}
use Rattle.ss_rows.proofs.Lent.{lent_results}
use Rattle.ss_rows.proofs.query.listed_query.Goals as goal

pub returns-in_err-found-clause-stops : goal.returns-in_err-found-clause-stops
returns-in_err-found-clause-stops g c =
    let rows = λ (s : SourceId). rows_in (g.X.RowsOf.positioned c.args.from.now s) in
    let p = err_from_is_err_and c.from_residual.result c.from_residual.ensures.1 in
    rw (p.1, p.2) (stops_at_where rows c.args.params.now c.args.query.now _ c.in_err-found.ensures.stops)

pub returns-in-Some-clause-ok : goal.returns-in-Some-clause-ok
returns-in-Some-clause-ok g c =
    let rows = λ (s : SourceId). rows_in (g.X.RowsOf.positioned c.args.from.now s) in
    let q = c.args.query.now in
    let params = c.args.params.now in
    let found = c.in_ok-found.found.items in
    rows_are rows params q c.enough_of.result c.enough_of.ensures (tuples_of found) c.in_ok-found.ensures.ok (lent_rows params q.items found) _
    (lent_results params q c.in-Some.ensures.1 found) c.in_ok-first_results.ensures

pub returns-in_err-results-clause-stops : goal.returns-in_err-results-clause-stops
returns-in_err-results-clause-stops g c =
    let rows = λ (s : SourceId). rows_in (g.X.RowsOf.positioned c.args.from.now s) in
    let q = c.args.query.now in
    let params = c.args.params.now in
    let p = err_from_is_err_and c.from_residual-in_err-results.result c.from_residual-in_err-results.ensures.1 in
    let stops = subst (λ (found : List Tuple). StopsAs (results_of params q (tuples_of found)) c.in_err-results.field-0.0) c.as_slice.ensures.value c.in_err-results.ensures.stops in
    rw (p.1, p.2) (stops_at_items rows params q c.enough_of.result c.enough_of.ensures (tuples_of c.in_ok-found.found.items) c.in_ok-found.ensures.ok _ stops)

pub returns-clause-ok : goal.returns-clause-ok
returns-clause-ok g c =
    let rows = λ (s : SourceId). rows_in (g.X.RowsOf.positioned c.args.from.now s) in
    let q = c.args.query.now in
    let params = c.args.params.now in
    let results = subst (λ (found : List Tuple). results_of params q (tuples_of found) ≡ Ok c.in_ok-results.results) c.as_slice.ensures.value c.in_ok-results.ensures.ok in
    rows_are rows params q c.enough_of.result c.enough_of.ensures (tuples_of c.in_ok-found.found.items) c.in_ok-found.ensures.ok c.in_ok-results.results _ results c.in_ok-ordered_rows.ensures
