use Rattle.std.proofs.Common.{◌≡◌, ◌∙◌, ℕ, ◌≤◌, slice_get, Ok, Option, Some, None, option_map, sym, ap, subst, arith}
use Rattle.std.specs.List.{fold}
use Rattle.std.proofs.lemmas.Result.{err_from_is_err_and}
use Rattle.ss_value.specs.Rows.{Row, column_values}
use Rattle.ss_model.specs.declared.catalog.TableDef.{TableDef}
use Rattle.ss_standing.specs.ImageForm.{table_with}
use Rattle.ss_standing.specs.Readers.{made}
use Rattle.ss_snapshot.specs.ImageParts.{last_row, rows_above}
use Rattle.ss_snapshot.specs.Parts.{Refuses}
use Rattle.ss_snapshot.specs.Tables.{table_in}
use Rattle.ss_snapshot.proofs.Putting.{next}
use Rattle.ss_snapshot.proofs.Readings.{last_keys}
use Rattle.ss_snapshot.proofs.Chunks.{IsFilling, all_read, chunk_refused, goes_on, may_put, none_read, same_def}
use Rattle.ss_snapshot.proofs.reading.tables.rows_into.Goals as goal

pub loop-left-init : goal.loop-left-init
loop-left-init c =
    let here : slice_get c.args.catalog.now.tables c.args.number ≡ Some c.at-table.result.now = ap (λ (n : ℕ). slice_get c.args.catalog.now.tables n) (sym c.from.ensures) ∙ c.at-table.ensures in
    none_read c.args.catalog.now c.requires.accepted c.args.number c.at-table.result.now here c.args.whole.now c.args.count c.args.bytes.now c.requires.committed c.requires.empty

pub put_rows-requires : goal.put_rows-requires
put_rows-requires c =
    let d = c.at-table.result.now in
    let here : slice_get c.args.catalog.now.tables c.args.number ≡ Some d = ap (λ (n : ℕ). slice_get c.args.catalog.now.tables n) (sym c.from.ensures) ∙ c.at-table.ensures in
    let some = c.min-some.result in
    let last = option_map (column_values d.key) c.loop-left.last in
    let fewer : some ≤ c.loop-left.left = omega arith in
    let read : rows_above d some last c.loop-left.rest.now ≡ Ok (c.in_ok-rows.rows, c.in_ok-rows.behind.now) =
    ap (λ (o : Option Row). rows_above d some (option_map (column_values d.key) o) c.loop-left.rest.now) (sym c.as_ref.ensures.value) ∙ c.in_ok-rows.ensures in (
      c.args.catalog.now,
      may_put c.args.catalog.now c.requires.accepted c.args.number d here c.args.whole.now c.loop-left.whole c.args.count c.loop-left.left some last c.args.bytes.now c.loop-left.rest.now
          c.loop-left.invariant fewer (c.requires.may d here) c.in_ok-rows.rows c.in_ok-rows.behind.now read,
    )

pub loop-left-preserved : goal.loop-left-preserved
loop-left-preserved c =
    let d = c.at-table.result.now in
    let here : slice_get c.args.catalog.now.tables c.args.number ≡ Some d = ap (λ (n : ℕ). slice_get c.args.catalog.now.tables n) (sym c.from.ensures) ∙ c.at-table.ensures in
    let some = c.min-some.result in
    let rows = c.in_ok-rows.rows in
    let last = option_map (column_values d.key) c.loop-left.last in
    let fewer : some ≤ c.loop-left.left = omega arith in
    let read : rows_above d some last c.loop-left.rest.now ≡ Ok (rows, c.in_ok-rows.behind.now) =
    ap (λ (o : Option Row). rows_above d some (option_map (column_values d.key) o) c.loop-left.rest.now) (sym c.as_ref.ensures.value) ∙ c.in_ok-rows.ensures in
    let copied : c.in_ok-last.last ≡ last_row c.loop-left.last rows = c.in_ok-last.ensures.copy ∙ ap (last_row c.loop-left.last) c.as_slice.ensures in
    let last_is : option_map (column_values d.key) c.in_ok-last.last ≡ fold (next d) last rows = ap (option_map (column_values d.key)) copied ∙ last_keys d.key c.loop-left.last rows in
    goes_on c.args.catalog.now c.requires.accepted c.args.number d here c.args.whole.now c.loop-left.whole c.args.count c.loop-left.left some last c.args.bytes.now c.loop-left.rest.now
    c.loop-left.invariant fewer (c.requires.may d here) rows c.in_ok-rows.behind.now read c.put_rows.new.whole
    (c.in_ok-put_rows.ensures.put c.args.catalog.now (may_put c.args.catalog.now c.requires.accepted c.args.number d here c.args.whole.now c.loop-left.whole c.args.count c.loop-left.left some last c.args.bytes.now c.loop-left.rest.now
    c.loop-left.invariant fewer (c.requires.may d here) rows c.in_ok-rows.behind.now read))
    (option_map (column_values d.key) c.in_ok-last.last) last_is

pub returns-clause-read : goal.returns-clause-read
returns-clause-read c =
    let d = c.at-table.result.now in
    let here : slice_get c.args.catalog.now.tables c.args.number ≡ Some d = ap (λ (n : ℕ). slice_get c.args.catalog.now.tables n) (sym c.from.ensures) ∙ c.at-table.ensures in
    let last = option_map (column_values d.key) c.loop-left.last in
    let none : c.loop-left.left ≡ 0 = omega arith in
    let all = all_read c.args.catalog.now c.requires.accepted c.args.number d here c.args.whole.now c.loop-left.whole c.args.count last c.args.bytes.now c.loop-left.rest.now
    (subst (λ (n : ℕ). IsFilling c.args.catalog.now c.args.number d c.args.whole.now c.loop-left.whole c.args.count n last c.args.bytes.now c.loop-left.rest.now) none c.loop-left.invariant) in
    λ other is.
    subst (λ (x : TableDef). made (table_with x) (rows_above x c.args.count None) c.args.bytes.now ≡ Ok (table_in c.loop-left.whole c.args.number, c.loop-left.rest.now))
    (same_def (slice_get c.args.catalog.now.tables c.args.number) d other here is) all

pub returns-clause-filled : goal.returns-clause-filled
returns-clause-filled c = c.loop-left.invariant.filled

pub returns-in_err-rows-clause-read : goal.returns-in_err-rows-clause-read
returns-in_err-rows-clause-read c =
    let p = err_from_is_err_and c.from_residual.result c.from_residual.ensures.1 in
    let d = c.at-table.result.now in
    let here : slice_get c.args.catalog.now.tables c.args.number ≡ Some d = ap (λ (n : ℕ). slice_get c.args.catalog.now.tables n) (sym c.from.ensures) ∙ c.at-table.ensures in
    let some = c.min-some.result in
    let last = option_map (column_values d.key) c.loop-left.last in
    let e = c.in_err-rows.field-0.0 in
    let fewer : some ≤ c.loop-left.left = omega arith in
    let refused : Refuses e (rows_above d some last c.loop-left.rest.now) =
    subst (λ (o : Option Row). Refuses e (rows_above d some (option_map (column_values d.key) o) c.loop-left.rest.now)) c.as_ref.ensures.value c.in_err-rows.ensures in
    λ other is.
    rw (p.1, p.2)
    (subst (λ (x : TableDef). Refuses e (made (table_with x) (rows_above x c.args.count None) c.args.bytes.now)) (same_def (slice_get c.args.catalog.now.tables c.args.number) d other here is)
    (chunk_refused c.args.catalog.now c.requires.accepted c.args.number d here c.args.whole.now c.loop-left.whole c.args.count c.loop-left.left some last c.args.bytes.now c.loop-left.rest.now
    c.loop-left.invariant fewer e refused))
