use Rattle.std.proofs.Common.{◌≡◌, ◌∷◌, [], ◌++◌, Some, true, false, slice_get, ap, sym, ◌∙◌, ℕ, refl, rules}
use Rattle.std.proofs.lemmas.Option.{slice_get_read}
use Rattle.ss_model.specs.Bodies.{is_closed_by}
use Rattle.ss_lemmas.proofs.Filtered.{filter_takes, filter_passes_by}
use Rattle.ss_model_computed.proofs.bodies.open_units.owned_batch_windows.Goals as goal
use Rattle.ss_model_computed.proofs.bodies.open_units.owned_batch_windows.Goals.{then-is_closed_by+in-Ok+in_ok-push, else-is_closed_by}

pub loop-at-preserved : goal.loop-at-preserved
loop-at-preserved c =
    let read : slice_get c.args.catalog.now.windows c.loop-at.at ≡ Some c.window-item.result =
    rw (← c.as_slice-window-items.ensures) (slice_get_read c.as_slice-window-items.result.now _ c.loop-at.at c.window-item.result refl c.loop-at-test.true c.window-item.is) in
    let closes = λ (n : ℕ). is_closed_by c.args.procedure (slice_get c.args.catalog.now.windows n) in
    elim c.if-is_closed_by.branch [
      | then-is_closed_by+in-Ok+in_ok-push w ↦
          let number : w.in-Ok.number ≡ c.loop-at.at = search rules in
          let pushed : w.push.new.self ≡ c.loop-at.owned ++ w.in-Ok.number ∷ [] = search rules in
          let passes : closes c.loop-at.at ≡ true = ap (is_closed_by c.args.procedure) read ∙ sym c.is_closed_by.ensures ∙ w.if-is_closed_by.true in
          w.owned-is ∙ pushed ∙ ap (λ n. c.loop-at.owned ++ n ∷ []) number ∙ ap (λ ns. ns ++ c.loop-at.at ∷ []) c.loop-at.invariant ∙ filter_takes closes c.loop-at.at passes
      | else-is_closed_by w ↦
          let passes : closes c.loop-at.at ≡ false = ap (is_closed_by c.args.procedure) read ∙ sym c.is_closed_by.ensures ∙ w.if-is_closed_by.false in
          w.owned-is ∙ c.loop-at.invariant ∙ filter_passes_by closes c.loop-at.at passes
    ]
