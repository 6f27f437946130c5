use Rattle.std.proofs.Common.{◌≡◌, ◌∙◌, ℕ, suc, ◌+◌, ◌-◌, [], ◌∷◌, ◌++◌, sym, ap, arith, rules}
use Rattle.ss_standing.specs.ImageForm.{row_of}
use Rattle.ss_standing.specs.Readers.{with_front}
use Rattle.ss_standing.proofs.CallerLemmas.{next_item}
use Rattle.ss_snapshot.specs.ImageParts.{many_rows}
use Rattle.ss_snapshot.proofs.reading.rows.rows_in.Goals as goal

pub loop-preserved : goal.loop-preserved
loop-preserved c =
    let schema = c.args.schema.now in
    let n = c.args.count - c.loop.counter - 1 in
    let more : c.args.count - c.loop.counter ≡ suc n = omega arith in
    let less : c.args.count - (c.loop.counter + 1) ≡ n = omega arith in
    let pushed : c.push.new.self ≡ c.loop.rows ++ c.in_ok-row.row ∷ [] = search rules in
    (λ k. with_front (pushed k) (many_rows schema (less k) c.in_ok-row.behind.now))
    ∙ sym (next_item (λ s row. s) (λ (s : Unit {0}). row_of schema) c.loop.rows n tt c.loop.rest.now c.in_ok-row.row c.in_ok-row.behind.now c.in_ok-row.ensures)
    ∙ ap (λ (m : ℕ). with_front c.loop.rows (many_rows schema m c.loop.rest.now)) (sym more)
    ∙ c.loop.invariant
