use Rattle.std.proofs.Common.{◌≡◌, ◌∙◌, ◌≤◌, ◌+◌, ◌++◌, ◌∷◌, [], List, ℕ, drop, false, append_assoc, sym, ap, subst, rules, arith}
use Rattle.std.proofs.lemmas.Bool.{or_parts}
use Rattle.serde_json.specs.Data.{items_depth}
use Rattle.serde_json.specs.Read.{max_depth}
use Rattle.serde_json.specs.View.{view, items_view}
use Rattle.serde_json.specs.Written.{has_float, items_have_float}
use Rattle.serde_json.specs.declared.value.Value.{Value}
use Rattle.ss_lemmas.proofs.LoopItem.{next}
use Rattle.ss_catalog.specs.Texts.{body_text, each_body_text}
use Rattle.ss_catalog.proofs.own_texts.each_body_text.Goals as goal

pub body_text-requires-clause-levels : goal.body_text-requires-clause-levels
body_text-requires-clause-levels c =
    let i = c.loop-procedure.procedure-index in
    let ps = c.args.procedures.now in
    let x = c.procedure-item.result in
    let split = next ps i x c.loop-procedure-test.true c.procedure-item.is in
    let levels : items_depth (items_view (x ∷ drop (i + 1) ps)) ≤ max_depth = subst (λ (vs : List Value). items_depth (items_view vs) ≤ max_depth) split c.loop-procedure.invariant.levels in
    omega arith

pub body_text-requires-clause-no_float : goal.body_text-requires-clause-no_float
body_text-requires-clause-no_float c =
    let i = c.loop-procedure.procedure-index in
    let ps = c.args.procedures.now in
    let x = c.procedure-item.result in
    let split = next ps i x c.loop-procedure-test.true c.procedure-item.is in
    (or_parts (has_float (view x)) (items_have_float (items_view (drop (i + 1) ps))) (subst (λ (vs : List Value). items_have_float (items_view vs) ≡ false) split c.loop-procedure.invariant.no_float)).0

pub loop-procedure-preserved : goal.loop-procedure-preserved
loop-procedure-preserved c =
    let i = c.loop-procedure.procedure-index in
    let ps = c.args.procedures.now in
    let x = c.procedure-item.result in
    let split = next ps i x c.loop-procedure-test.true c.procedure-item.is in
    let rest = each_body_text (items_view (drop (i + 1) ps)) in
    let pushed : c.push.new.self ≡ c.loop-procedure.texts ++ c.in_ok-text.text ∷ [] = search rules in
    let levels : items_depth (items_view (x ∷ drop (i + 1) ps)) ≤ max_depth = subst (λ (vs : List Value). items_depth (items_view vs) ≤ max_depth) split c.loop-procedure.invariant.levels in
    record {
      levels = omega arith;
      no_float = (or_parts (has_float (view x)) (items_have_float (items_view (drop (i + 1) ps))) (subst (λ (vs : List Value). items_have_float (items_view vs) ≡ false) split c.loop-procedure.invariant.no_float)).1;
      texts =
          c.loop-procedure.invariant.texts
          ∙ ap (λ (vs : List Value). c.loop-procedure.texts ++ each_body_text (items_view vs)) split
          ∙ sym (append_assoc c.loop-procedure.texts (body_text (view x) ∷ []) rest)
          ∙ ap (λ (t : List ℕ). (c.loop-procedure.texts ++ t ∷ []) ++ rest) (sym c.in_ok-text.ensures)
          ∙ ap (λ (ts : List (List ℕ)). ts ++ rest) (sym pushed);
    }
