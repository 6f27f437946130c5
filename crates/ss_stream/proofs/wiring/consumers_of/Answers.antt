use Rattle.std.proofs.Common.{◌≡◌, ℕ, ◌+◌, Bool, true, false, cond, List, [], ◌∷◌, ◌++◌, refl, sym, ◌∙◌, arith}
use Rattle.std.specs.List.{filter, range_with_len}
use Rattle.std.proofs.lemmas.Grind.{common_steps}
use Rattle.std.proofs.lemmas.List.{append-nil}
use Rattle.ss_lemmas.proofs.Filtered.{filter_takes, filter_passes_by}
use Rattle.ss_model.specs.Orders.{procedure_takes}
use Rattle.ss_stream.proofs.wiring.consumers_of.Goals as goal

-- one number more is tested
one_more : (p : ℕ → Bool) (n : ℕ) → filter p (range_with_len 0 (n + 1)) ≡ filter p (range_with_len 0 n) ++ cond (p n) (n ∷ []) []
one_more p n = by (p n) refl
  where
    by : (b : Bool) → p n ≡ b → filter p (range_with_len 0 (n + 1)) ≡ filter p (range_with_len 0 n) ++ cond b (n ∷ []) []
    by true e = sym (filter_takes p n e)
    by false e = sym (filter_passes_by p n e) ∙ sym (append-nil (filter p (range_with_len 0 n)))

pub loop-procedure-preserved : goal.loop-procedure-preserved
loop-procedure-preserved c =
    let more = one_more (λ q. procedure_takes c.args.catalog.now q c.args.stream) c.loop-procedure.procedure in
    grind (arith, common_steps)
