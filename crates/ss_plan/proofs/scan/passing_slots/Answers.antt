use Rattle.std.proofs.Common.{◌≡◌, ℕ, zero, suc, ◌+◌, ◌<◌, ◌≤◌, List, [], ◌∷◌, ◌++◌, Bor, cond, length, drop, get_or, refl, sym, ap, ◌∙◌, arith, add-one, drop-cons}
use Rattle.std.proofs.lemmas.Result.{err_from_is_err_and}
use Rattle.ss_value.specs.Rows.{Row}
use Rattle.ss_model.specs.Queries.{where_passes}
use Rattle.ss_plan.specs.Keys.{lent_row}
use Rattle.ss_plan.specs.Found.{lent_rows}
use Rattle.ss_plan.proofs.Scanning.{nothing_kept, all_kept, one_noted, one_stops, positions_noted}
use Rattle.ss_plan.proofs.scan.passing_slots.Goals as goal

-- the next row stands in front of those that are left
next_lent : (rows : List (ℕ × Bor Row)) (i : ℕ) (p : ℕ × Bor Row) → i < length rows → p ≡ get_or rows i p → lent_rows (drop i rows) ≡ lent_row p ∷ lent_rows (drop (i + 1) rows)
next_lent rows i p lt is =
    ap lent_rows (drop-cons rows i p lt) ∙ ap (λ q. lent_row q ∷ lent_rows (drop (suc i) rows)) (sym is) ∙ ap (λ n. lent_row p ∷ lent_rows (drop n rows)) (sym (add-one i))

none_lent : (rows : List (ℕ × Bor Row)) (i : ℕ) → length rows ≤ i → lent_rows (drop i rows) ≡ []
none_lent [] zero le = refl
none_lent [] (suc i) le = refl
none_lent (q ∷ qs) zero le = absurd (omega arith)
none_lent (q ∷ qs) (suc i) le = none_lent qs i (omega arith)

pub loop-slot-init : goal.loop-slot-init
loop-slot-init c =
    let test = λ (p : ℕ × Row). where_passes c.args.params.now c.args.test.now (p.1 ∷ []) in
    ([], c.new-slots.ensures.items, nothing_kept test (lent_rows c.args.rows.now))

pub loop-slot-preserved : goal.loop-slot-preserved
loop-slot-preserved c =
    let test = λ (p : ℕ × Row). where_passes c.args.params.now c.args.test.now (p.1 ∷ []) in
    let all = lent_rows c.args.rows.now in
    let at = c.loop-slot.slot-index in
    let i = c.loop-slot.invariant in
    let item = c.loop-slot-item.result in
    let n = c.in_ok-note_position.ensures.ok in (
      i.0 ++ cond n.0 (lent_row item ∷ []) [],
      positions_noted n.0 i.0 item.0 item.1.now c.loop-slot.slots.items c.note_position.new.positions.items i.1 n.2,
      one_noted test all i.0 (lent_rows (drop at c.args.rows.now)) i.2 (lent_row item) (lent_rows (drop (at + 1) c.args.rows.now)) (next_lent c.args.rows.now at item c.loop-slot-test.true c.loop-slot-item.is) n.0 n.1,
    )

pub returns-in_err-note_position-clause-stops : goal.returns-in_err-note_position-clause-stops
returns-in_err-note_position-clause-stops c =
    let test = λ (p : ℕ × Row). where_passes c.args.params.now c.args.test.now (p.1 ∷ []) in
    let all = lent_rows c.args.rows.now in
    let at = c.loop-slot.slot-index in
    let i = c.loop-slot.invariant in
    let item = c.loop-slot-item.result in
    let e = err_from_is_err_and c.from_residual.result c.from_residual.ensures.1 in
    rw (e.1, e.2) (one_stops test all i.0 (lent_rows (drop at c.args.rows.now)) i.2 (lent_row item) (lent_rows (drop (at + 1) c.args.rows.now)) (next_lent c.args.rows.now at item c.loop-slot-test.true c.loop-slot-item.is) _ c.in_err-note_position.ensures.stops)

pub returns-clause-ok : goal.returns-clause-ok
returns-clause-ok c =
    let test = λ (p : ℕ × Row). where_passes c.args.params.now c.args.test.now (p.1 ∷ []) in
    let i = c.loop-slot.invariant in
    (i.0, all_kept test (lent_rows c.args.rows.now) i.0 (lent_rows (drop c.loop-slot.slot-index c.args.rows.now)) i.2 (none_lent c.args.rows.now c.loop-slot.slot-index c.loop-slot-test.false), i.1)
