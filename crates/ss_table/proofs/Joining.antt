-- A part more at the end.
use Rattle.std.proofs.Common.{◌≡◌, ℕ, ◌+◌, ◌==◌, suc, Bool, true, false, cond, List, [], ◌∷◌, ◌++◌, length, refl, sym, ap, ◌∙◌, Option, Some, None, option_map, ◌⊎◌, inl, inr, arith}
use Rattle.std.specs.List.{AllByRecursion}
use Rattle.std.specs.Option.{option_or}
use Rattle.std.specs.declared.cmp.Ordering.{Ordering}
use Rattle.std.specs.Cmp.{IsTotalOrder}
use Rattle.std.specs.FinMap as finite
use Rattle.std.specs.FinMap.{IsAntisymmetric}
use Rattle.ss_table.specs.Unions.{united, AtHome}
use Rattle.ss_table.specs.Routes.{place_among}
use Rattle.ss_table.specs.Parts.{AreApart}
use Rattle.ss_table.proofs.Unions.{get_first, or_none}

or_or : {X : Type 0} (x y z : Option X) → option_or (option_or x y) z ≡ option_or x (option_or y z)
or_or None y z = refl
or_or (Some x) y z = refl

pub none_left : {X : Type 0} (x y : Option X) → option_or x y ≡ None → x ≡ None
none_left None y e = refl
none_left (Some x) y e = cc

pub none_right : {X : Type 0} (x y : Option X) → option_or x y ≡ None → y ≡ None
none_right None y e = e
none_right (Some x) y e = cc

module _ {K X : Type 0} {R : K → K → Ordering} (o : IsTotalOrder R) where
  pub get_append : (ms ns : List (finite.FinMap R X)) (q : K) → finite.get (united (ms ++ ns)) q ≡ option_or (finite.get (united ms) q) (finite.get (united ns) q)
  get_append [] ns q = ap (λ x. option_or x (finite.get (united ns) q)) (sym (finite.get-empty R q))
  get_append (m ∷ ms) ns q = get_first o m (ms ++ ns) q ∙ ap (option_or (finite.get m q)) (get_append ms ns q) ∙ sym (or_or (finite.get m q) _ _) ∙ ap (λ x. option_or x (finite.get (united ns) q)) (sym (get_first o m ms q))

  pub get_two : (m n : finite.FinMap R X) (q : K) → finite.get (united (m ∷ n ∷ [])) q ≡ option_or (finite.get m q) (finite.get n q)
  get_two m n q = get_first o m (n ∷ []) q ∙ ap (option_or (finite.get m q)) (get_first o n [] q ∙ ap (option_or (finite.get n q)) (finite.get-empty R q) ∙ or_none (finite.get n q))

  -- what is united of two lists is united of what each is
  pub united_append : IsAntisymmetric R → (ms ns : List (finite.FinMap R X)) → united (ms ++ ns) ≡ united (united ms ∷ united ns ∷ [])
  united_append same ms ns = finite.same_map o same _ _ (λ q. get_append ms ns q ∙ sym (get_two (united ms) (united ns) q))

  -- another home for keys that no map has
  pub rehomed : (home other : K → ℕ) (ms : List (finite.FinMap R X)) (i : ℕ) → AtHome home i ms → ((q : K) → (other q ≡ home q) ⊎ (finite.get (united ms) q ≡ None)) → AtHome other i ms
  rehomed home other [] i h same = tt
  rehomed home other (m ∷ ms) i h same = (
    (λ q e. elim (same q) [
      | inl s ↦ h.0 q (sym (ap (λ a. a == i) s) ∙ e)
      | inr n ↦ none_left (finite.get m q) _ (sym (get_first o m ms q) ∙ n)
    ]),
    rehomed home other ms (suc i) h.1 (λ q. elim (same q) [
      | inl s ↦ inl s
      | inr n ↦ inr (none_right (finite.get m q) _ (sym (get_first o m ms q) ∙ n))
    ]),
  )

  pub home_append : (home : K → ℕ) (ms : List (finite.FinMap R X)) (m : finite.FinMap R X) (i : ℕ) → AtHome home i ms → ((q : K) → (home q == i + length ms) ≡ false → finite.get m q ≡ None) → AtHome home i (ms ++ m ∷ [])
  home_append home [] m i h last = ((λ q e. last q (ap (λ a. home q == a) (omega arith) ∙ e)), tt)
  home_append home (n ∷ ms) m i h last = (h.0, home_append home ms m (suc i) h.1 (λ q e. last q (ap (λ a. home q == a) (omega arith) ∙ e)))

-- a part more
pub place_more : (ps : List ℕ) (p q : ℕ) → place_among (ps ++ p ∷ []) q ≡ option_or (place_among ps q) (cond (p == q) (Some (length ps)) None)
place_more [] p q = elim (p == q) as (λ b. cond b (Some 0) (option_map suc None) ≡ cond b (Some 0) None) [ true ↦ refl | false ↦ refl ]
place_more (r ∷ ps) p q = ap (λ o. cond (r == q) (Some 0) (option_map suc o)) (place_more ps p q)
    ∙ elim (r == q) as (λ b. cond b (Some 0) (option_map suc (option_or (place_among ps q) (cond (p == q) (Some (length ps)) None))) ≡ option_or (cond b (Some 0) (option_map suc (place_among ps q))) (cond (p == q) (Some (suc (length ps))) None)) [
      | true ↦ refl
      | false ↦ counted (place_among ps q) (p == q)
    ]
  where
    counted : (o : Option ℕ) (b : Bool) → option_map suc (option_or o (cond b (Some (length ps)) None)) ≡ option_or (option_map suc o) (cond b (Some (suc (length ps))) None)
    counted None true = refl
    counted None false = refl
    counted (Some n) b = refl

pub same_itself : (p : ℕ) → (p == p) ≡ true
same_itself p = grind arith

-- a part that is known keeps its place, and a fresh one stands at the end
pub place_kept : (ps : List ℕ) (p q n : ℕ) → place_among ps q ≡ Some n → place_among (ps ++ p ∷ []) q ≡ Some n
place_kept ps p q n e = place_more ps p q ∙ ap (λ o. option_or o (cond (p == q) (Some (length ps)) None)) e

pub place_last : (ps : List ℕ) (p : ℕ) → place_among ps p ≡ None → place_among (ps ++ p ∷ []) p ≡ Some (length ps)
place_last ps p e = place_more ps p p ∙ ap (λ o. option_or o (cond (p == p) (Some (length ps)) None)) e ∙ ap (λ b. cond b (Some (length ps)) None) (same_itself p)

pub apart_more : (i : ℕ) (all ps : List ℕ) (p : ℕ) → AreApart i all ps → AreApart i (all ++ p ∷ []) ps
apart_more i all [] p a = tt
apart_more i all (q ∷ ps) p a = (place_kept all p q i a.0, apart_more (suc i) all ps p a.1)

pub apart_end : (i : ℕ) (all ps : List ℕ) (p : ℕ) → AreApart i all ps → place_among all p ≡ Some (i + length ps) → AreApart i all (ps ++ p ∷ [])
apart_end i all [] p a e = (e ∙ ap Some (omega arith), tt)
apart_end i all (q ∷ ps) p a e = (a.0, apart_end (suc i) all ps p a.1 (e ∙ ap Some (omega arith)))

pub all_append : {A : Type 0} (P : A → Type 0) (xs : List A) (x : A) → AllByRecursion P xs → P x → AllByRecursion P (xs ++ x ∷ [])
all_append P [] x h p = (p, tt)
all_append P (y ∷ xs) x h p = (h.0, all_append P xs x h.1 p)
