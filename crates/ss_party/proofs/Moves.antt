-- Each step keeps the rule of the bays.
use Rattle.std.proofs.Common.{◌≡◌, ◌≢◌, ℕ, zero, suc, ◌<◌, List, [], ◌∷◌, ◌++◌, set, get_or, slice_index, Option, Some, refl, sym, ◌∙◌, subst, arith, get_or-set_other}
use mathlib.Core.Option.{some, none}
use mathlib.Core.Logic.{dite}
use native.Mathlib.Decide.{ℕ_discrete}
use lib.ListN.{get_elem?}
use Rattle.atomic_table.specs.Table.{State, Me, step, takes, keeps, gives, Allows, Arrives}
use Rattle.atomic_table.proofs.Lists.{set_here, set_else}
use Rattle.ss_party.specs.Rule.{HasOwnValues, Took, Gave}

set_zero : (l : List ℕ) (i : ℕ) → get_or (set l i 0) i 0 ≡ 0
set_zero [] i = refl
set_zero (x ∷ xs) zero = refl
set_zero (x ∷ xs) (suc i) = set_zero xs i

module _ {T : Type 0} (tag : T → ℕ) where
  -- the word p becomes 0, and the other slots stay
  emptied : (s : State (Option T) (Unit {0})) (p : ℕ) (homes : List (mathlib.Core.Option.Option (Option T))) (views : List (Unit {0})) → ((q : ℕ) → q ≢ p → get_elem? homes q ≡ get_elem? s.homes q)
      → HasOwnValues tag s → HasOwnValues tag (record { words = set s.words p 0; homes = homes; views = views })
  emptied s p homes views same k = record {
    full = λ q e. dite (ℕ_discrete q p)
        (λ (is : q ≡ p). let z : get_or (set s.words p 0) p 0 ≡ 1 = subst (λ (n : ℕ). get_or (set s.words p 0) n 0 ≡ 1) is e in let y = set_zero s.words p in absurd (omega arith))
        (λ (out : q ≢ p). let f = k.full q (sym (get_or-set_other s.words p q 0 0 out) ∙ e) in (f.0, same q out ∙ f.1, f.2));
  }

  pub bay_takes : (slots p : ℕ) → Arrives (HasOwnValues tag) slots p (λ _. 0) (Took tag (step slots p 0 0 none) (tt, []))
  bay_takes slots p s k deep small = dite (ℕ_discrete (slice_index s.words p) 1)
      (λ (e : slice_index s.words p ≡ 1). let f = k.full p e in
      (tt, takes p (Some f.0), f.1, emptied s p (set s.homes p none) (s.views ++ tt ∷ []) (λ q out. set_else s.homes p q none out) k, ((λ _. (f.0, f.2, refl)), (λ ne. absurd (ne e)))))
      (λ (ne : slice_index s.words p ≢ 1). (tt, keeps, tt, emptied s p s.homes (s.views ++ tt ∷ []) (λ q out. refl) k, ((λ e. absurd (ne e)), (λ _. refl))))

  pub bay_gives : (slots id p : ℕ) (me : Me (Option T) (Unit {0})) (v : T) → me ≡ (tt, (p, Some v) ∷ []) → tag v ≡ p → p < slots → Allows (HasOwnValues tag) slots id me p (λ _. 1) (λ _. Gave (step slots p 1 0 none) me 1)
  bay_gives slots id p me v is own low =
      let P : Me (Option T) (Unit {0}) → Type 0 = λ m. Allows (HasOwnValues tag) slots id m p (λ _. 1) (λ _. Gave (step slots p 1 0 none) m 1) in
      subst P (sym is) (λ s k deep at small. (
        tt,
        gives,
        tt,
        record {
          full = λ q e. dite (ℕ_discrete q p)
              (λ (here : q ≡ p). subst (λ (n : ℕ). (w : T) × (get_elem? (set s.homes p (some (Some v))) n ≡ some (some (Some w))) × (tag w ≡ n)) (sym here) (v, set_here s.homes p (some (Some v)) (omega arith), own))
              (λ (out : q ≢ p). let f = k.full q (sym (get_or-set_other s.words p q 1 0 out) ∙ e) in (f.0, set_else s.homes p q (some (Some v)) out ∙ f.1, f.2));
        },
        tt,
      ))
