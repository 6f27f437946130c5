use Rattle.std.proofs.Common.{ℕ, [], ◌∷◌, ◌++◌, cond, refl, sym, ap, ◌∙◌}
use Rattle.std.proofs.lemmas.Result.{err_from_is_err_and}
use Rattle.ss_value.specs.Rows.{Row}
use Rattle.ss_model.specs.Queries.{where_passes}
use Rattle.ss_rows.proofs.CallerLemmas.{walked_row, walked_on, walked_falls}
use Rattle.ss_plan.proofs.Scanning.{nothing_kept, one_noted, one_stops, positions_noted}
use Rattle.ss_plan.proofs.scan.matching_positions.Goals as goal

pub loop-at-init : goal.loop-at-init
loop-at-init g c =
    let positioned = g.X.RowsOf.positioned c.args.from.now c.args.source.now in
    let test = λ (p : ℕ × Row). where_passes c.args.params.now c.args.test.now (p.1 ∷ []) in
    ([], positioned, (refl, c.first-at.ensures), ([], c.new-positions.ensures.items, nothing_kept test positioned))

pub returns-in_err-note_position-clause-stops : goal.returns-in_err-note_position-clause-stops
returns-in_err-note_position-clause-stops g c =
    let positioned = g.X.RowsOf.positioned c.args.from.now c.args.source.now in
    let test = λ (p : ℕ × Row). where_passes c.args.params.now c.args.test.now (p.1 ∷ []) in
    let i = c.loop-at.invariant in
    let r = walked_row positioned c.loop-at.at i.0 c.in-Some.position i.1 i.2 c.in-Some.is in
    let e = err_from_is_err_and c.from_residual.result c.from_residual.ensures.1 in
    rw (e.1, e.2) (one_stops test positioned i.3.0 i.1 i.3.2 (c.in-Some.position, r.0) r.1 r.2 _ (rw (← c.row_at-row.ensures r.0 r.1 r.3) c.in_err-note_position.ensures.stops))

pub loop-at-smaller : goal.loop-at-smaller
loop-at-smaller g c =
    let positioned = g.X.RowsOf.positioned c.args.from.now c.args.source.now in
    let i = c.loop-at.invariant in
    walked_falls positioned c.loop-at.at i.0 c.in-Some.position c.after-next.result.0 i.1 i.2 c.in-Some.is c.after-next.ensures

pub loop-at-preserved : goal.loop-at-preserved
loop-at-preserved g c =
    let positioned = g.X.RowsOf.positioned c.args.from.now c.args.source.now in
    let test = λ (p : ℕ × Row). where_passes c.args.params.now c.args.test.now (p.1 ∷ []) in
    let i = c.loop-at.invariant in
    let s = walked_on positioned c.loop-at.at i.0 c.in-Some.position c.after-next.result.0 i.1 i.2 c.in-Some.is c.after-next.ensures in
    let n = c.in_ok-note_position.ensures.ok in
    let b = n.0 in
    let is = ap (λ (row : Row). where_passes c.args.params.now c.args.test.now (row ∷ [])) (sym (c.row_at-row.ensures s.0 s.1 s.3)) ∙ n.1 in (
      i.0 ++ (c.in-Some.position, s.0) ∷ [],
      s.1,
      s.4,
      (
        i.3.0 ++ cond b ((c.in-Some.position, s.0) ∷ []) [],
        positions_noted b i.3.0 c.in-Some.position s.0 c.loop-at.positions.items c.note_position.new.positions.items i.3.1 n.2,
        one_noted test positioned i.3.0 i.1 i.3.2 (c.in-Some.position, s.0) s.1 s.2 b is,
      ),
    )
