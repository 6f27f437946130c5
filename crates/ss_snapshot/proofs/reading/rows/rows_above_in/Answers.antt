use Rattle.std.proofs.Common.{◌≡◌, ◌∙◌, ℕ, suc, ◌+◌, ◌-◌, [], ◌∷◌, ◌++◌, Ok, Option, option_map, sym, ap, subst, arith, rules}
use Rattle.std.specs.List.{fold}
use Rattle.std.specs.Option.{option_copied}
use Rattle.std.proofs.lemmas.List.Sums.{fold-append}
use Rattle.std.proofs.lemmas.Result.{err_from_is_err_and}
use Rattle.ss_value.specs.Rows.{Row, column_values}
use Rattle.ss_standing.specs.ImageForm.{row_above}
use Rattle.ss_standing.specs.Readers.{with_front}
use Rattle.ss_standing.proofs.CallerLemmas.{next_item}
use Rattle.ss_snapshot.specs.ImageParts.{last_row, rows_above}
use Rattle.ss_snapshot.specs.Parts.{Refuses}
use Rattle.ss_snapshot.proofs.Putting.{next}
use Rattle.ss_snapshot.proofs.Readings.{last_keys, one_refused}
use Rattle.ss_snapshot.proofs.reading.rows.rows_above_in.Goals as goal

pub loop-preserved : goal.loop-preserved
loop-preserved c =
    let d = c.args.table.now in
    let before = option_map (column_values d.key) (option_copied c.args.before) in
    let last = fold (next d) before c.loop.rows in
    let row = c.in_ok-row.row in
    let behind = c.in_ok-row.behind.now in
    let n = c.args.count - c.loop.counter - 1 in
    let more : c.args.count - c.loop.counter ≡ suc n = omega arith in
    let less : c.args.count - (c.loop.counter + 1) ≡ n = omega arith in
    let pushed : c.push.new.self ≡ c.loop.rows ++ row ∷ [] = search rules in
    let state : option_map (column_values d.key) (option_copied c.last_of-last.result) ≡ last =
    ap (option_map (column_values d.key)) (c.last_of-last.ensures ∙ ap (last_row (option_copied c.args.before)) c.as_slice.ensures) ∙ last_keys d.key (option_copied c.args.before) c.loop.rows in
    let read : row_above d last c.loop.rest.now ≡ Ok (row, behind) = ap (λ (s : Option Row). row_above d s c.loop.rest.now) (sym state) ∙ c.in_ok-row.ensures in
    (λ k. with_front (pushed k) (rows_above d (less k) (fold (next d) before (pushed k)) behind))
    ∙ ap (λ (s : Option Row). with_front (c.loop.rows ++ row ∷ []) (rows_above d n s behind)) (fold-append (next d) before c.loop.rows (row ∷ []))
    ∙ sym (next_item (next d) (row_above d) c.loop.rows n last c.loop.rest.now row behind read)
    ∙ ap (λ (m : ℕ). with_front c.loop.rows (rows_above d m last c.loop.rest.now)) (sym more)
    ∙ c.loop.invariant

pub returns-in_err-row : goal.returns-in_err-row
returns-in_err-row c =
    let p = err_from_is_err_and c.from_residual.result c.from_residual.ensures.1 in
    let d = c.args.table.now in
    let before = option_map (column_values d.key) (option_copied c.args.before) in
    let last = fold (next d) before c.loop.rows in
    let n = c.args.count - c.loop.counter - 1 in
    let more : c.args.count - c.loop.counter ≡ suc n = omega arith in
    let state : option_map (column_values d.key) (option_copied c.last_of-last.result) ≡ last =
    ap (option_map (column_values d.key)) (c.last_of-last.ensures ∙ ap (last_row (option_copied c.args.before)) c.as_slice.ensures) ∙ last_keys d.key (option_copied c.args.before) c.loop.rows in
    rw (p.1, p.2)
    (one_refused (next d) (row_above d) c.loop.rows n last c.loop.rest.now (rows_above d c.args.count before c.args.bytes.now) c.in_err-row.field-0.0
    (ap (λ (m : ℕ). with_front c.loop.rows (rows_above d m last c.loop.rest.now)) (sym more) ∙ c.loop.invariant)
    (subst (λ (s : Option Row). Refuses c.in_err-row.field-0.0 (row_above d s c.loop.rest.now)) state c.in_err-row.ensures))
