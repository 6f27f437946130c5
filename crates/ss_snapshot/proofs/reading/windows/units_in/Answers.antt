use Rattle.std.proofs.Common.{◌≡◌, ◌∙◌, ℕ, suc, ◌+◌, ◌-◌, List, [], ◌∷◌, ◌++◌, length, length-append, sym, ap, arith, rules}
use Rattle.std.proofs.lemmas.Result.{err_from_is_err_and}
use Rattle.ss_value.specs.Rows.{Rows}
use Rattle.ss_standing.specs.ImageForm.{is_unit, rows_of}
use Rattle.ss_standing.specs.Readers.{with_front}
use Rattle.ss_standing.proofs.CallerLemmas.{next_item}
use Rattle.ss_snapshot.specs.ImageParts.{many_units}
use Rattle.ss_snapshot.proofs.Readings.{one_refused}
use Rattle.ss_snapshot.proofs.reading.windows.units_in.Goals as goal

pub loop-preserved : goal.loop-preserved
loop-preserved c =
    let d = c.args.window.now in
    let n = c.args.count - c.loop.counter - 1 in
    let more : c.args.count - c.loop.counter ≡ suc n = omega arith in
    let less : c.args.count - (c.loop.counter + 1) ≡ n = omega arith in
    let pushed : c.push.new.self ≡ c.loop.units ++ c.in_ok-unit.unit ∷ [] = search rules in
    record {
      read =
          (λ k. with_front (pushed k) (many_units d.unit d.schema (less k) c.in_ok-unit.behind.now))
          ∙ sym (next_item (λ s unit. s) (λ (s : Unit {0}). rows_of 8 (is_unit d.unit) d.schema) c.loop.units n tt c.loop.rest.now c.in_ok-unit.unit c.in_ok-unit.behind.now c.in_ok-unit.ensures)
          ∙ ap (λ (m : ℕ). with_front c.loop.units (many_units d.unit d.schema m c.loop.rest.now)) (sym more)
          ∙ c.loop.invariant.read;
      many = omega (arith, ap (λ (l : List Rows). length l) pushed, length-append c.loop.units (c.in_ok-unit.unit ∷ []), c.loop.invariant.many);
    }

pub returns-in_err-unit-clause-read : goal.returns-in_err-unit-clause-read
returns-in_err-unit-clause-read c =
    let p = err_from_is_err_and c.from_residual.result c.from_residual.ensures.1 in
    let d = c.args.window.now in
    let n = c.args.count - c.loop.counter - 1 in
    let more : c.args.count - c.loop.counter ≡ suc n = omega arith in
    rw (p.1, p.2)
    (one_refused (λ s unit. s) (λ (s : Unit {0}). rows_of 8 (is_unit d.unit) d.schema) c.loop.units n tt c.loop.rest.now (many_units d.unit d.schema c.args.count c.args.bytes.now) c.in_err-unit.field-0.0
    (ap (λ (m : ℕ). with_front c.loop.units (many_units d.unit d.schema m c.loop.rest.now)) (sym more) ∙ c.loop.invariant.read)
    c.in_err-unit.ensures)
