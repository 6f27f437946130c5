use Rattle.std.proofs.Common.{◌≡◌, ◌<◌, ◌∙◌, ◌==◌, ◌||◌, ◌⊎◌, ◌↔◌, inr, Bool, true, drop, ◌+◌, ap, arith, rules, refl, subst}
use Rattle.std.specs.Int.{IsBitSet}
use Rattle.std.specs.List.{list_any}
use Rattle.std.proofs.lemmas.Bool.Decides.{Decides-eqb}
use Rattle.std.proofs.lemmas.Bool.{or_left}
use Rattle.ss_model.specs.Database.{emits_to}
use Rattle.ss_sched.proofs.Outputs.{output_joins, outputs_from, emits_here, emits_nothing}
use Rattle.ss_sched.proofs.wake.body_outputs.Goals as goal
use Rattle.ss_sched.proofs.wake.body_outputs.Goals.{in-Emit, in_default}

pub insert-requires : goal.insert-requires
insert-requires c =
    let t = c.in-Emit.stream in
    let body = c.args.body.now in
    let from = outputs_from t body c.loop-step.step-index c.step-item.result c.loop-step-test.true c.step-item.is in
    c.requires t ((c.loop-step.invariant t).0 (inr (from ∙ or_left _ _ (emits_here t t c.in-Emit.query c.step-item.result c.in-Emit.is ∙ (Decides-eqb t t).1 refl))))

pub overflow_cast-stream : goal.overflow_cast-stream
overflow_cast-stream c =
    let t = c.in-Emit.stream in
    let body = c.args.body.now in
    let from = outputs_from t body c.loop-step.step-index c.step-item.result c.loop-step-test.true c.step-item.is in
    let few : t < 64 = c.requires t ((c.loop-step.invariant t).0 (inr (from ∙ or_left _ _ (emits_here t t c.in-Emit.query c.step-item.result c.in-Emit.is ∙ (Decides-eqb t t).1 refl)))) in
    let small : t < 256 = omega arith in
    search rules

pub loop-step-preserved : goal.loop-step-preserved
loop-step-preserved c = λ s.
    let body = c.args.body.now in
    let rest = list_any (emits_to s) (drop (c.loop-step.step-index + 1) body) in
    let whole = list_any (emits_to s) body ≡ true in
    let from = outputs_from s body c.loop-step.step-index c.step-item.result c.loop-step-test.true c.step-item.is in
    elim c.match-step.branch [
      | in-Emit w ↦
          let t = w.in-Emit.stream in
          let split : list_any (emits_to s) (drop c.loop-step.step-index body) ≡ (s == t || rest) = from ∙ ap (λ b. b || rest) (emits_here s t w.in-Emit.query c.step-item.result w.in-Emit.is) in
          rw w.streams-is (output_joins (IsBitSet c.loop-step.streams s) (IsBitSet w.insert.new.self s) whole s t rest (subst (λ (b : Bool). (IsBitSet c.loop-step.streams s ⊎ (b ≡ true)) ↔ whole) split (c.loop-step.invariant s)) (w.insert.ensures s))
      | in_default w ↦
          let split : list_any (emits_to s) (drop c.loop-step.step-index body) ≡ rest = from ∙ ap (λ b. b || rest) (emits_nothing s c.step-item.result w.in_default.not-Emit) in
          rw w.streams-is (subst (λ (b : Bool). (IsBitSet c.loop-step.streams s ⊎ (b ≡ true)) ↔ whole) split (c.loop-step.invariant s))
    ]
