-- The least key of a united map.
use Rattle.std.proofs.Common.{◌≡◌, Bool, true, false, cond, ◌&&◌, List, [], ◌∷◌, refl, sym, ap, subst, ◌∙◌, Option, Some, None, T}
use Rattle.std.specs.Option.{option_or}
use Rattle.std.specs.Ordering.{is_eq, is_lt, ordering_reverse}
use Rattle.std.specs.declared.cmp.Ordering.{Ordering}
use Rattle.std.specs.declared.cmp.Ordering.TheVariants.{Less, Equal, Greater}
use Rattle.std.specs.Cmp.{IsTotalOrder}
use Rattle.std.specs.FinMap as finite
use Rattle.std.specs.FinMap.{IsAntisymmetric}
use Rattle.std.specs.FinMap.Entries.{find, is_sorted, below_all}
use Rattle.std.proofs.lemmas.Cmp.{tied_itself}
use Rattle.ss_lemmas.proofs.Bools.{and_left, and_right, some_same}
use Rattle.ss_lemmas.proofs.Orderings.{is_less}
use Rattle.ss_fragment.proofs.CallerLemmas.{and_both, none_below}
use Rattle.ss_table.specs.Unions.{united, head, lesser}
use Rattle.ss_table.proofs.Unions.{get_first}

-- this is the entry of the least key, if there is one
abbrev pub IsLeast : {K X : Type 0} → (K → K → Ordering) → (K → Option X) → Option (K × X) → Type 0
IsLeast {K = K} R get None = (q : K) → get q ≡ None
IsLeast {K = K} R get (Some e) = (get e.0 ≡ Some e.1) × ((q : K) → R q e.0 ≡ Less → get q ≡ None)

module _ {K X : Type 0} {R : K → K → Ordering} (o : IsTotalOrder R) where
  below_more : (x y : K) (es : List (K × X)) → R x y ≡ Less → T (below_all R y es) → T (below_all R x es)
  below_more x y [] p h = tt
  below_more x y (e ∷ es) p h = and_both _ _ (subst (λ r. T (is_lt r)) (sym (o.trans x y e.0 p (is_less _ (and_left _ _ h)))) tt) (below_more x y es p (and_right _ _ h))

  -- what a list's first has
  pub first_has : (e : K × X) (es : List (K × X)) → find R e.0 (e ∷ es) ≡ Some e.1
  first_has e es = ap (λ r. cond (is_eq r) (Some e.1) (find R e.0 es)) (tied_itself o e.0)

  before_first : (q : K) (e : K × X) (es : List (K × X)) → R q e.0 ≡ Less → T (is_sorted R (e ∷ es)) → find R q (e ∷ es) ≡ None
  before_first q e es l h = ap (λ r. cond (is_eq r) (Some e.1) (find R q es)) l ∙ none_below R q es (below_more q e.0 es l (and_left _ _ h))

  head_least : (es : List (K × X)) → T (is_sorted R es) → IsLeast R (λ q. find R q es) (head es)
  head_least [] h = λ q. refl
  head_least (e ∷ es) h = (first_has e es, λ q l. before_first q e es l h)

  module _ (same : IsAntisymmetric R) where
    -- there is one at most
    least_once : (get : K → Option X) (a b : Option (K × X)) → IsLeast R get a → IsLeast R get b → a ≡ b
    least_once get None None p q = refl
    least_once get None (Some b) p q = let no : None ≡ Some b.1 = sym (p b.0) ∙ q.0 in cc
    least_once get (Some a) None p q = let no : None ≡ Some a.1 = sym (q a.0) ∙ p.0 in cc
    least_once get (Some a) (Some b) p q =
        elim (R a.0 b.0) as (λ r. R a.0 b.0 ≡ r → Some a ≡ Some b) [
          | Less ↦ λ r. let no : None ≡ Some a.1 = sym (q.1 a.0 r) ∙ p.0 in cc
          | Equal ↦ λ r.
              let keys : a.0 ≡ b.0 = same a.0 b.0 r in
              let items : a.1 ≡ b.1 = some_same a.1 b.1 (sym p.0 ∙ ap get keys ∙ q.0) in
              (λ i. Some (keys i, items i))
          | Greater ↦ λ r. let no : None ≡ Some b.1 = sym (p.1 b.0 (o.antisymm b.0 a.0 ∙ ap ordering_reverse r)) ∙ q.0 in cc
        ] refl

    -- of a map, the first entry
    pub least_of : (m : finite.FinMap R X) → IsLeast R (finite.get m) (head (finite.entries m))
    least_of m = subst (λ (g : K → Option X). IsLeast R g (head (finite.entries m))) (λ i q. sym (finite.get-entries m q) i) (head_least (finite.entries m) (finite.entries_sorted m))

    pub least_is : (m : finite.FinMap R X) (e : Option (K × X)) → IsLeast R (finite.get m) e → head (finite.entries m) ≡ e
    least_is m e is = least_once (finite.get m) _ e (least_of m) is

    both_least : (f g get : K → Option X) → ((q : K) → get q ≡ option_or (f q) (g q)) → (a b : Option (K × X)) → IsLeast R f a → IsLeast R g b → IsLeast R get (lesser R a b)
    both_least f g get is None None p q = λ k. is k ∙ ap (λ x. option_or x (g k)) (p k) ∙ q k
    both_least f g get is None (Some b) p q = (is b.0 ∙ ap (λ x. option_or x (g b.0)) (p b.0) ∙ q.0, λ k l. is k ∙ ap (λ x. option_or x (g k)) (p k) ∙ q.1 k l)
    both_least f g get is (Some a) None p q = (is a.0 ∙ ap (λ x. option_or x (g a.0)) p.0, λ k l. is k ∙ ap (λ x. option_or x (g k)) (p.1 k l) ∙ q k)
    both_least f g get is (Some a) (Some b) p q =
        elim (R b.0 a.0) as (λ r. R b.0 a.0 ≡ r → IsLeast R get (cond (is_lt r) (Some b) (Some a))) [
          | Less ↦ λ r. (is b.0 ∙ ap (λ x. option_or x (g b.0)) (p.1 b.0 r) ∙ q.0, λ k l. is k ∙ ap (λ x. option_or x (g k)) (p.1 k (o.trans k b.0 a.0 l r)) ∙ q.1 k l)
          | Equal ↦ λ r. (is a.0 ∙ ap (λ x. option_or x (g a.0)) p.0, λ k l. is k ∙ ap (λ x. option_or x (g k)) (p.1 k l) ∙ q.1 k (subst (λ x. R k x ≡ Less) (sym (same b.0 a.0 r)) l))
          | Greater ↦ λ r. (is a.0 ∙ ap (λ x. option_or x (g a.0)) p.0, λ k l. is k ∙ ap (λ x. option_or x (g k)) (p.1 k l) ∙ q.1 k (o.trans k a.0 b.0 l (o.antisymm a.0 b.0 ∙ ap ordering_reverse r)))
        ] refl

    -- the least of a united map is the least of the leasts
    pub least_united : (m : finite.FinMap R X) (ms : List (finite.FinMap R X)) → head (finite.entries (united (m ∷ ms))) ≡ lesser R (head (finite.entries m)) (head (finite.entries (united ms)))
    least_united m ms = least_is (united (m ∷ ms)) _ (both_least (finite.get m) (finite.get (united ms)) (finite.get (united (m ∷ ms))) (get_first o m ms) _ _ (least_of m) (least_of (united ms)))
