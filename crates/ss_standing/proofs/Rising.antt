-- Entries whose keys rise are those of a map.
use Rattle.std.proofs.Common.{◌≡◌, List, [], ◌∷◌, Bool, true, false, ◌&&◌, T, Option, Some, None, refl, sym, subst}
use Rattle.std.specs.Ordering.{is_lt}
use Rattle.std.specs.declared.cmp.Ordering.{Ordering}
use Rattle.std.specs.Cmp.{IsTotalOrder}
use Rattle.std.specs.FinMap as finmap
use Rattle.std.specs.FinMap.{FinMap, entries-from_sorted, entries_sorted, same_entries_map}
use Rattle.std.specs.FinMap.Entries as entries
use Rattle.ss_lemmas.proofs.Bools.{and_left, and_right}
use Rattle.ss_lemmas.proofs.Orderings.{is_less}
use Rattle.ss_standing.specs.Readers.{is_above, Chained}

yes : (b : Bool) → b ≡ true → T b
yes b is = subst T (sym is) tt

pub is_true : (b : Bool) → T b → b ≡ true
is_true true t = refl
is_true false t = absurd t

both : (a b : Bool) → T a → T b → T (a && b)
both true b p q = q
both false b p q = p

module _ {K X : Type 0} (R : K → K → Ordering) (total : IsTotalOrder R) where
  -- each stands behind the last, if there is one
  abbrev BehindLast : Option K → List (K × X) → Type 0
  BehindLast None es = Unit {0}
  BehindLast (Some last) es = T (entries.below_all R last es)

  all_behind : (x y : K) (es : List (K × X)) → T (is_lt (R x y)) → T (entries.below_all R y es) → T (entries.below_all R x es)
  all_behind x y [] lt below = tt
  all_behind x y (e ∷ es) lt below = both (is_lt (R x e.0)) (entries.below_all R x es)
      (subst (λ o. T (is_lt o)) (sym (total.trans x y e.0 (is_less (R x y) lt) (is_less (R y e.0) (and_left (is_lt (R y e.0)) (entries.below_all R y es) below)))) tt)
      (all_behind x y es lt (and_right (is_lt (R y e.0)) (entries.below_all R y es) below))

  behind_last : (s : Option K) (e : K × X) (es : List (K × X)) → is_above R s e.0 ≡ true → T (entries.below_all R e.0 es) → BehindLast s (e ∷ es)
  behind_last None e es above below = tt
  behind_last (Some last) e es above below = both (is_lt (R last e.0)) (entries.below_all R last es) (yes (is_lt (R last e.0)) above) (all_behind last e.0 es (yes (is_lt (R last e.0)) above) below)

  rise : (s : Option K) (es : List (K × X)) → Chained (λ (s : Option K) (e : K × X). Some e.0) (λ s e. is_above R s e.0 ≡ true) s es → T (entries.is_sorted R es) × BehindLast s es
  rise None [] chain = (tt, tt)
  rise (Some last) [] chain = (tt, tt)
  rise s (e ∷ es) chain =
      let rest = rise (Some e.0) es chain.1 in
      (both (entries.below_all R e.0 es) (entries.is_sorted R es) rest.1 rest.0, behind_last s e es chain.0 rest.1)

  pub rising_sorted : (es : List (K × X)) → Chained (λ (s : Option K) (e : K × X). Some e.0) (λ s e. is_above R s e.0 ≡ true) None es → T (entries.is_sorted R es)
  rising_sorted es chain = (rise None es chain).0

  above_last : (s : Option K) (e : K × X) (es : List (K × X)) → BehindLast s (e ∷ es) → is_above R s e.0 ≡ true
  above_last None e es behind = refl
  above_last (Some last) e es behind = is_true (is_lt (R last e.0)) (and_left (is_lt (R last e.0)) (entries.below_all R last es) behind)

  sorted_rise : (s : Option K) (es : List (K × X)) → T (entries.is_sorted R es) → BehindLast s es → Chained (λ (s : Option K) (e : K × X). Some e.0) (λ s e. is_above R s e.0 ≡ true) s es
  sorted_rise s [] sorted behind = tt
  sorted_rise s (e ∷ es) sorted behind =
      (above_last s e es behind, sorted_rise (Some e.0) es (and_right (entries.below_all R e.0 es) (entries.is_sorted R es) sorted) (and_left (entries.below_all R e.0 es) (entries.is_sorted R es) sorted))

  pub entries_rise : (m : FinMap R X) → Chained (λ (s : Option K) (e : K × X). Some e.0) (λ s e. is_above R s e.0 ≡ true) None (finmap.entries m)
  entries_rise m = sorted_rise None (finmap.entries m) (entries_sorted m) tt

  -- the map of its entries
  pub of_own_entries : (m : FinMap R X) → finmap.from_sorted {R = R} (finmap.entries m) ≡ m
  of_own_entries m = same_entries_map (finmap.from_sorted {R = R} (finmap.entries m)) m (entries-from_sorted R (finmap.entries m) (entries_sorted m))
