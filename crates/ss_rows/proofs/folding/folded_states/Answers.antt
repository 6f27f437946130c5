use Rattle.std.proofs.Common.{List, None, [], refl, subst}
use Rattle.std.proofs.lemmas.Result.{err_from_is_err_and}
use Rattle.ss_value.specs.Rows.{Rows}
use Rattle.ss_sql_trees.specs.declared.typed.SourceId.{SourceId}
use Rattle.ss_model.specs.Results.{OrAbort}
use Rattle.ss_model.specs.Queries.{where_passes}
use Rattle.ss_rows.specs.Adding.{onto}
use Rattle.ss_rows.specs.Counts.{row_passing}
use Rattle.ss_rows.specs.Meaning.{passing}
use Rattle.ss_rows.specs.Sources.{rows_in}
use Rattle.ss_rows.proofs.Adding.{through}
use Rattle.ss_rows.proofs.Counts.{passing_single, counted_all}
use Rattle.ss_rows.proofs.Passing.{Passes, passes_none, row_stops, row_through}
use Rattle.ss_rows.proofs.Walking.{walked_falls}
use Rattle.ss_rows.proofs.folding.folded_states.Goals as goal

pub loop-at-init : goal.loop-at-init
loop-at-init g c =
    let q = c.args.query.now in
    let rows = λ (s : SourceId). rows_in (g.X.RowsOf.positioned c.args.from.now s) in
    let positioned = g.X.RowsOf.positioned c.args.from.now q.from in
    let p = where_passes c.args.params.now q.test in (
      [],
      subst (λ (meaning : OrAbort (List Rows)). Passes p meaning None positioned c.first-at.result.0 []) (passing_single rows c.args.params.now q c.requires.single) (passes_none p None positioned c.first-at.result.0 [] c.first-at.ensures refl),
      c.requires.first,
    )

pub loop-at-smaller : goal.loop-at-smaller
loop-at-smaller g c =
    let i = c.loop-at.invariant.1 in
    walked_falls (g.X.RowsOf.positioned c.args.from.now c.args.query.now.from) c.loop-at.at i.0 c.in-Some.position c.after-next.result.0 i.1 i.2 c.in-Some.is c.after-next.ensures

pub returns-in_err-fold_row-clause-stops : goal.returns-in_err-fold_row-clause-stops
returns-in_err-fold_row-clause-stops g c =
    let q = c.args.query.now in
    let rows = λ (s : SourceId). rows_in (g.X.RowsOf.positioned c.args.from.now s) in
    let i = c.loop-at.invariant in
    let e = err_from_is_err_and c.from_residual.result c.from_residual.ensures.1 in
    rw (e.1, e.2) (row_stops (where_passes c.args.params.now q.test) (passing rows c.args.params.now q) None (g.X.RowsOf.positioned c.args.from.now q.from) c.loop-at.at i.0 i.1 c.in-Some.position c.in-Some.is c.row_at-outer.result.now c.row_at-outer.ensures
    _ c.in_err-fold_row.ensures.stops)

pub loop-at-preserved : goal.loop-at-preserved
loop-at-preserved g c =
    let q = c.args.query.now in
    let rows = λ (s : SourceId). rows_in (g.X.RowsOf.positioned c.args.from.now s) in
    let i = c.loop-at.invariant in
    let more = c.in_ok-fold_row.ensures.ok q.items i.0 i.2 in (
      more.0,
      row_through (where_passes c.args.params.now q.test) (passing rows c.args.params.now q) None (g.X.RowsOf.positioned c.args.from.now q.from) c.loop-at.at i.0 i.1 c.in-Some.position c.in-Some.is c.row_at-outer.result.now c.row_at-outer.ensures
          None more.0 (through None (onto i.0 (row_passing c.args.params.now q.test c.row_at-outer.result.now)) more.0 more.1) c.after-next.result.0 c.after-next.ensures (λ near. near),
      more.2,
    )

pub returns-clause-ok : goal.returns-clause-ok
returns-clause-ok g c =
    let q = c.args.query.now in
    let rows = λ (s : SourceId). rows_in (g.X.RowsOf.positioned c.args.from.now s) in
    let i = c.loop-at.invariant in
    (i.0, counted_all (where_passes c.args.params.now q.test) (passing rows c.args.params.now q) (g.X.RowsOf.positioned c.args.from.now q.from) c.loop-at.at i.0 i.1 c.in_default.is, i.2)
