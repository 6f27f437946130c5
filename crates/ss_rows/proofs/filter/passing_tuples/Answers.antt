use Rattle.std.proofs.Common.{length, ap, subst, rules}
use Rattle.std.proofs.lemmas.List.{length-map}
use Rattle.std.proofs.lemmas.Result.{err_from_is_err_and}
use Rattle.ss_sql_trees.specs.declared.typed.SourceId.{SourceId}
use Rattle.ss_model.specs.Queries.{where_passes, join_source}
use Rattle.ss_rows.specs.Sources.{rows_in}
use Rattle.ss_rows.specs.Tuples.{tuple_of, tuples_of}
use Rattle.ss_rows.specs.Enough.{Reaches}
use Rattle.ss_rows.specs.Meaning.{passing}
use Rattle.ss_rows.proofs.Walking.{walked_falls}
use Rattle.ss_rows.proofs.Adding.{always_passes, ends_early, reaches_items}
use Rattle.ss_rows.proofs.Passing.{passes_none, row_stops, row_enough, row_through}
use Rattle.ss_rows.proofs.filter.passing_tuples.Goals as goal

pub loop-at-init : goal.loop-at-init
loop-at-init g c =
    let q = c.args.query.now in
    let join = join_source (λ (s : SourceId). rows_in (g.X.RowsOf.positioned c.args.from.now s)) q.joined in
    (c.in_ok-index.ensures, passes_none (where_passes c.args.params.now q.test) join (g.X.RowsOf.positioned c.args.from.now q.from) c.first-at.result.0 (tuples_of c.new-found.result.items) c.first-at.ensures (ap tuples_of c.new-found.ensures.items))

pub returns-in_err-add_row-clause-stops : goal.returns-in_err-add_row-clause-stops
returns-in_err-add_row-clause-stops g c =
    let q = c.args.query.now in
    let rows = λ (s : SourceId). rows_in (g.X.RowsOf.positioned c.args.from.now s) in
    let join = join_source rows q.joined in
    let e = err_from_is_err_and c.from_residual-in_err-add_row.result c.from_residual-in_err-add_row.ensures.1 in
    rw (e.1, e.2) (row_stops (where_passes c.args.params.now q.test) (passing rows c.args.params.now q) join (g.X.RowsOf.positioned c.args.from.now q.from) c.loop-at.at (tuples_of c.loop-at.found.items) c.loop-at.invariant.1 c.in-Some.position c.in-Some.is c.row_at-outer.result.now c.row_at-outer.ensures
    _ (c.in_err-add_row.ensures.stops join c.loop-at.invariant.0))

pub returns-then-is_enough-clause-ok : goal.returns-then-is_enough-clause-ok
returns-then-is_enough-clause-ok g c =
    let q = c.args.query.now in
    let rows = λ (s : SourceId). rows_in (g.X.RowsOf.positioned c.args.from.now s) in
    let join = join_source rows q.joined in
    let new = c.add_row.new.found.items in
    let near : Reaches c.args.enough (length new) = search rules in
    row_enough (where_passes c.args.params.now q.test) (passing rows c.args.params.now q) join (g.X.RowsOf.positioned c.args.from.now q.from) c.loop-at.at (tuples_of c.loop-at.found.items) c.loop-at.invariant.1 c.in-Some.position c.in-Some.is c.row_at-outer.result.now c.row_at-outer.ensures
    c.args.enough (tuples_of new) (c.in_ok-add_row.ensures.ok join c.loop-at.invariant.0)
    (always_passes c.args.params.now q.test (ends_early c.args.enough q.test _ c.requires near)) (reaches_items c.args.enough new near)

pub loop-at-smaller : goal.loop-at-smaller
loop-at-smaller g c =
    let i = c.loop-at.invariant.1 in
    walked_falls (g.X.RowsOf.positioned c.args.from.now c.args.query.now.from) c.loop-at.at i.0 c.in-Some.position c.after-next.result.0 i.1 i.2 c.in-Some.is c.after-next.ensures

pub loop-at-preserved : goal.loop-at-preserved
loop-at-preserved g c =
    let q = c.args.query.now in
    let rows = λ (s : SourceId). rows_in (g.X.RowsOf.positioned c.args.from.now s) in
    let join = join_source rows q.joined in
    let new = c.add_row.new.found.items in
    let far : Reaches c.args.enough (length new) → ⊥ = search rules in (
      c.loop-at.invariant.0,
      row_through (where_passes c.args.params.now q.test) (passing rows c.args.params.now q) join (g.X.RowsOf.positioned c.args.from.now q.from) c.loop-at.at (tuples_of c.loop-at.found.items) c.loop-at.invariant.1 c.in-Some.position c.in-Some.is c.row_at-outer.result.now c.row_at-outer.ensures
          c.args.enough (tuples_of new) (c.in_ok-add_row.ensures.ok join c.loop-at.invariant.0)
          c.after-next.result.0 c.after-next.ensures (λ near. far (subst (Reaches c.args.enough) (length-map new tuple_of) near)),
    )
