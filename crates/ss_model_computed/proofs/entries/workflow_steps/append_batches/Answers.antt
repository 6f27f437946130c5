use Rattle.std.proofs.Common.{◌≡◌, ◌∷◌, [], ◌++◌, ap, ◌∙◌, sym, rules}
use Rattle.ss_model.proofs.CallerLemmas.{indexed_more}
use Rattle.ss_model_computed.specs.Databases.{appended_batch}
use Rattle.ss_model_computed.proofs.entries.workflow_steps.append_batches.Goals as goal

pub loop-stream-preserved : goal.loop-stream-preserved
loop-stream-preserved c =
    let one = appended_batch c.args.procedure.now c.args.emitted.now in
    let pushed : c.push.new.self ≡ c.loop-stream.longer ++ c.in_ok-batches.batches ∷ [] = search rules in
    let batches : c.in_ok-batches.batches ≡ one c.loop-stream.stream c.batches-item.result = c.in_ok-batches.ensures in
    pushed
    ∙ ap (λ bs. c.loop-stream.longer ++ bs ∷ []) batches
    ∙ ap (λ longer. longer ++ one c.loop-stream.stream c.batches-item.result ∷ []) c.loop-stream.invariant
    ∙ sym (indexed_more one c.args.streams.now c.loop-stream.stream c.batches-item.result (rw c.as_slice-batches-items.ensures at c.loop-stream-test.true) (rw c.as_slice-batches-items.ensures at c.batches-item.is))
