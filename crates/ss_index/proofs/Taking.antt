-- A pair that is added and dropped.
use Rattle.std.proofs.Common.{◌≡◌, ℕ, zero, suc, ◌-◌, Bool, true, false, cond, refl, sym, ap, ◌∙◌, Option, Some, None, arith}
use Rattle.std.specs.Ordering.{nat_cmp, eq_by_cmp, is_eq, ordering_then}
use Rattle.std.specs.Cmp.{IsTotalOrder}
use Rattle.std.specs.declared.cmp.Ordering.{Ordering}
use Rattle.std.specs.declared.cmp.Ordering.TheVariants.{Less, Equal, Greater}
use Rattle.std.specs.FinMap as finite
use Rattle.std.specs.FinMap.{IsAntisymmetric, nat_cmp-IsAntisymmetric}
use Rattle.std.proofs.lemmas.Cmp.{tied_itself, then_total, on_total, nat_cmp_total}
use Rattle.ss_lemmas.proofs.Orderings.{equal_test}
use Rattle.ss_value.specs.Rows.{Row}
use Rattle.ss_value.specs.Order.{row_cmp}
use Rattle.ss_value.specs.ValueOrder.{row_cmp_total, row_cmp-IsAntisymmetric}
use Rattle.ss_index.specs.Pairs.{Pair, Pairs, IndexValue, pair_cmp, pair_of, AreCounted, times, or_zero, with_times, add_pair, drop_pair, with_pairs}
use Rattle.ss_index.specs.Indexes.{with_row, without_row}

pub pairs_total : IsTotalOrder pair_cmp
pairs_total = then_total (on_total (λ (p : Pair). p.0) row_cmp_total) (on_total (λ (p : Pair). p.1) nat_cmp_total)

first_ties : (r s : Ordering) → ordering_then r s ≡ Equal → (r ≡ Equal) × (s ≡ Equal)
first_ties Less s e = cc
first_ties Equal s e = (refl, e)
first_ties Greater s e = cc

pub pairs_antisymmetric : IsAntisymmetric pair_cmp
pairs_antisymmetric p q e =
    let both = first_ties (row_cmp p.0 q.0) (nat_cmp p.1 q.1) e in
    λ i. (row_cmp-IsAntisymmetric p.0 q.0 both.0 i, nat_cmp-IsAntisymmetric p.1 q.1 both.1 i)

pub tied : (q p : Pair) → eq_by_cmp pair_cmp q p ≡ true → q ≡ p
tied q p e = pairs_antisymmetric q p (equal_test (pair_cmp q p) e)

pub itself : (p : Pair) → eq_by_cmp pair_cmp p p ≡ true
itself p = ap is_eq (tied_itself pairs_total p)

-- how often a pair occurs, after it was made to occur so often
module _ (pairs : Pairs) (p : Pair) where
  pub stands_more : (n : ℕ) (q : Pair) → finite.get (with_times pairs p (suc n)) q ≡ cond (eq_by_cmp pair_cmp q p) (Some (suc n)) (finite.get pairs q)
  stands_more n q = finite.get-insert pairs_total pairs p (suc n) q

  pub stands_none : (q : Pair) → finite.get (with_times pairs p zero) q ≡ cond (eq_by_cmp pair_cmp q p) None (finite.get pairs q)
  stands_none q = finite.get-remove pairs_total pairs p q

module _ (pairs : Pairs) (p : Pair) (counted : AreCounted pairs) where
  now : times (add_pair pairs p) p ≡ suc (times pairs p)
  now = ap or_zero (stands_more pairs p (times pairs p) p ∙ ap (λ b. cond b (Some (suc (times pairs p))) (finite.get pairs p)) (itself p))

  more_is : (q : Pair) (b : Bool) → eq_by_cmp pair_cmp q p ≡ b → (n : ℕ) → finite.get pairs p ≡ Some n → cond b (Some n) (finite.get (add_pair pairs p) q) ≡ finite.get pairs q
  more_is q true t n is = sym (ap (finite.get pairs) (tied q p t) ∙ is)
  more_is q false t n is = stands_more pairs p (times pairs p) q ∙ ap (λ b. cond b (Some (suc (times pairs p))) (finite.get pairs q)) t

  none_is : (q : Pair) (b : Bool) → eq_by_cmp pair_cmp q p ≡ b → finite.get pairs p ≡ None → cond b None (finite.get (add_pair pairs p) q) ≡ finite.get pairs q
  none_is q true t is = sym (ap (finite.get pairs) (tied q p t) ∙ is)
  none_is q false t is = stands_more pairs p (times pairs p) q ∙ ap (λ b. cond b (Some (suc (times pairs p))) (finite.get pairs q)) t

  back : (o : Option ℕ) → finite.get pairs p ≡ o → (q : Pair) → finite.get (with_times (add_pair pairs p) p (suc (or_zero o) - 1)) q ≡ finite.get pairs q
  back None is q =
      let none : suc 0 - 1 ≡ 0 = omega arith in
      ap (λ n. finite.get (with_times (add_pair pairs p) p n) q) none ∙ stands_none (add_pair pairs p) p q ∙ none_is q (eq_by_cmp pair_cmp q p) refl is
  back (Some zero) is q = absurd (counted p is)
  back (Some (suc n)) is q =
      let less : suc (suc n) - 1 ≡ suc n = omega arith in
      ap (λ n. finite.get (with_times (add_pair pairs p) p n) q) less ∙ stands_more (add_pair pairs p) p n q ∙ more_is q (eq_by_cmp pair_cmp q p) refl (suc n) is

  pub taken_back : drop_pair (add_pair pairs p) p ≡ pairs
  taken_back =
      ap (λ n. with_times (add_pair pairs p) p (n - 1)) now
      ∙ finite.same_map pairs_total pairs_antisymmetric _ _ (back (finite.get pairs p) refl)

-- the same of the pair of a row in an index
pub row_taken_back : (row : Row) (slot : ℕ) (h : IndexValue) → AreCounted h.pairs → without_row row slot (with_row row slot h) ≡ h
row_taken_back row slot h counted = ap (with_pairs h) (taken_back h.pairs (pair_of h.columns row slot) counted)
