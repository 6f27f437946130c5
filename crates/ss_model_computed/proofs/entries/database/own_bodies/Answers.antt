use Rattle.std.proofs.Common.{◌≡◌, ◌<◌, ◌∷◌, [], ◌++◌, length, ap, ◌∙◌, sym, rules}
use Rattle.std.proofs.lemmas.Option.{get_or_from_slice_get}
use Rattle.ss_lemmas.proofs.LoopItem.{some_at}
use Rattle.ss_model.proofs.CallerLemmas.{indexed_more}
use Rattle.ss_model.specs.Database.{own_text}
use Rattle.ss_model_computed.proofs.entries.database.own_bodies.Goals as goal

pub loop-number-preserved : goal.loop-number-preserved
loop-number-preserved c =
    let within : c.loop-number.number < length c.args.catalog.now.procedures = rw c.as_slice-items.ensures at c.loop-number-test.true in
    let there = some_at c.args.catalog.now.procedures c.loop-number.number within in
    let pushed : c.push.new.self ≡ c.loop-number.texts ++ c.in_ok-text.text ∷ [] = search rules in
    pushed
    ∙ ap (λ text. c.loop-number.texts ++ text ∷ []) c.in_ok-text.ensures
    ∙ ap (λ texts. texts ++ own_text c.args.catalog.now c.loop-number.number ∷ []) c.loop-number.invariant
    ∙ sym (indexed_more (λ q p. own_text c.args.catalog.now q) c.args.catalog.now.procedures c.loop-number.number there.0 within (sym (get_or_from_slice_get c.args.catalog.now.procedures c.loop-number.number there.0 there.0 there.1)))
