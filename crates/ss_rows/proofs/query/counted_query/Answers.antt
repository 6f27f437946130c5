use Rattle.std.proofs.Common.{None}
use Rattle.std.proofs.lemmas.Result.{err_from_is_err_and}
use Rattle.ss_sql_trees.specs.declared.typed.SourceId.{SourceId}
use Rattle.ss_rows.specs.Meaning.{passing}
use Rattle.ss_rows.specs.Sources.{rows_in}
use Rattle.ss_rows.proofs.Adding.{through}
use Rattle.ss_rows.proofs.Enough.{stops_at_where, rows_are}
use Rattle.ss_rows.proofs.query.counted_query.Goals as goal

pub returns-in_err-results-clause-stops : goal.returns-in_err-results-clause-stops
returns-in_err-results-clause-stops g c =
    let rows = λ (s : SourceId). rows_in (g.X.RowsOf.positioned c.args.from.now s) in
    let p = err_from_is_err_and c.from_residual.result c.from_residual.ensures.1 in
    rw (p.1, p.2) (stops_at_where rows c.args.params.now c.args.query.now _ c.in_err-results.ensures.stops)

pub returns-clause-ok : goal.returns-clause-ok
returns-clause-ok g c =
    let rows = λ (s : SourceId). rows_in (g.X.RowsOf.positioned c.args.from.now s) in
    let q = c.args.query.now in
    let params = c.args.params.now in
    let counted = c.in_ok-results.ensures.ok in
    rows_are rows params q None tt counted.0 (through None (passing rows params q) counted.0 counted.1) c.in_ok-results.results _ counted.2 c.in_ok-ordered_rows.ensures
