use Rattle.std.proofs.Common.{◌≡◌, ◌∙◌, ℕ, suc, ◌+◌, ◌-◌, nat_le, [], ◌∷◌, ◌++◌, sym, ap, arith, rules}
use Rattle.ss_standing.specs.ImageForm.{rows_of}
use Rattle.ss_standing.specs.Readers.{with_front}
use Rattle.ss_standing.proofs.CallerLemmas.{next_item}
use Rattle.ss_snapshot.specs.ImageParts.{many_batches}
use Rattle.ss_snapshot.proofs.reading.streams.batches_in.Goals as goal

pub loop-preserved : goal.loop-preserved
loop-preserved c =
    let schema = c.args.schema.now in
    let n = c.args.count - c.loop.counter - 1 in
    let more : c.args.count - c.loop.counter ≡ suc n = omega arith in
    let less : c.args.count - (c.loop.counter + 1) ≡ n = omega arith in
    let pushed : c.push.new.self ≡ c.loop.batches ++ c.in_ok-batch.batch ∷ [] = search rules in
    (λ k. with_front (pushed k) (many_batches schema (less k) c.in_ok-batch.behind.now))
    ∙ sym (next_item (λ s batch. s) (λ (s : Unit {0}). rows_of 2 (λ n. nat_le n 1024) schema) c.loop.batches n tt c.loop.rest.now c.in_ok-batch.batch c.in_ok-batch.behind.now c.in_ok-batch.ensures)
    ∙ ap (λ (m : ℕ). with_front c.loop.batches (many_batches schema m c.loop.rest.now)) (sym more)
    ∙ c.loop.invariant
