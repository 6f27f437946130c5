-- The part of a map with its greater keys.
use Rattle.std.proofs.Common.{◌≡◌, Bool, true, false, cond, List, [], ◌∷◌, ◌++◌, refl, sym, ap, subst, ◌∙◌, Option, Some, None, T}
use Rattle.std.specs.List.{AllByRecursion}
use Rattle.std.specs.Ordering.{is_eq, eq_by_cmp}
use Rattle.std.specs.declared.cmp.Ordering.{Ordering}
use Rattle.std.specs.Cmp.{IsTotalOrder}
use Rattle.std.specs.FinMap as finite
use Rattle.std.specs.FinMap.{IsAntisymmetric}
use Rattle.std.specs.FinMap.Entries.{find, is_sorted}
use Rattle.ss_lemmas.proofs.Bools.{and_right}
use Rattle.ss_lemmas.proofs.Orderings.{equal_test}
use Rattle.ss_fragment.proofs.Maps.{find-past}

module _ {K X : Type 0} (R : K → K → Ordering) where
  pub sorted_back : (es fs : List (K × X)) → T (is_sorted R (es ++ fs)) → T (is_sorted R fs)
  sorted_back [] fs h = h
  sorted_back (e ∷ es) fs h = sorted_back es fs (and_right _ _ h)

  module _ (same : IsAntisymmetric R) (p : K → Bool) where
    -- no key of a list is one at which a test answers otherwise
    none_apart : (q : K) (b : Bool) (es : List (K × X)) → (p q ≡ b → ⊥) → AllByRecursion (λ e. p e.0 ≡ b) es → find R q es ≡ None
    none_apart q b [] n a = refl
    none_apart q b (e ∷ es) n a =
        elim (eq_by_cmp R q e.0) as (λ t. eq_by_cmp R q e.0 ≡ t → cond t (Some e.1) (find R q es) ≡ None) [
          | true ↦ λ t. absurd (n (ap p (same q e.0 (equal_test _ t)) ∙ a.0))
          | false ↦ λ t. none_apart q b es n a.1
        ] refl

    cut_at : (q : K) (es fs : List (K × X)) → AllByRecursion (λ e. p e.0 ≡ false) es → AllByRecursion (λ e. p e.0 ≡ true) fs → cond (p q) (find R q (es ++ fs)) None ≡ find R q fs
    cut_at q es fs a b =
        elim (p q) as (λ t. p q ≡ t → cond t (find R q (es ++ fs)) None ≡ find R q fs) [
          | true ↦ λ t. find-past R q es fs (none_apart q false es (λ f. let no : true ≡ false = sym t ∙ f in true_apart no) a)
          | false ↦ λ t. sym (none_apart q true fs (λ f. let no : true ≡ false = sym f ∙ t in true_apart no) b)
        ] refl
      where
        true_apart : true ≡ false → ⊥
        true_apart e = cc

module _ {K X : Type 0} {R : K → K → Ordering} (o : IsTotalOrder R) (same : IsAntisymmetric R) where
  -- where a test fails at each entry of the front and passes at each behind, what it retains is what stands behind
  pub retain_back : (m : finite.FinMap R X) (p : K → Bool) (es fs : List (K × X)) → finite.entries m ≡ es ++ fs
      → AllByRecursion (λ e. p e.0 ≡ false) es → AllByRecursion (λ e. p e.0 ≡ true) fs → finite.entries (finite.retain_keys m p) ≡ fs
  retain_back m p es fs is a b =
      let sorted : T (is_sorted R fs) = sorted_back R es fs (subst (λ l. T (is_sorted R l)) is (finite.entries_sorted m)) in
      let cut : finite.retain_keys m p ≡ finite.from_sorted fs = finite.same_map o same _ _ (λ q.
      finite.get-retain_keys m p q (λ x t. ap p (sym (same q x t)))
      ∙ ap (λ x. cond (p q) x None) (finite.get-entries m q ∙ ap (find R q) is)
      ∙ cut_at R same p q es fs a b ∙ sym (finite.get-from_sorted R fs q sorted)) in
      ap (λ m. finite.entries m) cut ∙ finite.entries-from_sorted R fs sorted
