-- The first in the order of settling, member by member.
use Rattle.std.proofs.Common.{◌≡◌, ◌<◌, ◌+◌, ◌⊎◌, inl, inr, ⊎_elim, ℕ, List, Some, None, IfSome, IfNone, refl, sym, ◌∙◌, subst, arith, below_more, get_or}
use Rattle.std.specs.Int.{IsBitSet}
use Rattle.std.specs.declared.option.Option.{Option}
use Rattle.ss_settle.specs.Members.{NoneBelow}
use Rattle.ss_settle.specs.Ranking.{ComesBefore, IsFirstRanked, IsSooner, StandsBefore}

-- ---- the order

pub comes_itself : (a p : ℕ) → ComesBefore a p a p
comes_itself a p = inr (refl, omega arith)

pub comes_through : (a b c p q r : ℕ) → ComesBefore a p b q → ComesBefore b q c r → ComesBefore a p c r
comes_through a b c p q r (inl low) (inl lower) = inl (omega (arith, low, lower))
comes_through a b c p q r (inl low) (inr same) = inl (let e = same.0 in omega (arith, low, e))
comes_through a b c p q r (inr same) (inl lower) = inl (let e = same.0 in omega (arith, lower, e))
comes_through a b c p q r (inr same) (inr too) = inr (same.0 ∙ too.0, (let x = same.1 in let y = too.1 in omega (arith, x, y)))

module _ (ranks : List ℕ) where
  pub stands_itself : (q : ℕ) → StandsBefore ranks q q
  stands_itself q = comes_itself (get_or ranks q 0) q

  pub stands_through : (p q r : ℕ) → StandsBefore ranks p q → StandsBefore ranks q r → StandsBefore ranks p r
  stands_through p q r = comes_through (get_or ranks p 0) (get_or ranks q 0) (get_or ranks r 0) p q r

module _ (ranks : List ℕ) (set : ℕ) (found : Option ℕ) where
  -- before the first member
  pub at_first : (o : Option ℕ) → o ≡ found → IfSome o (λ q. q < 64) → IfSome o (IsFirstRanked ranks 0 set found)
  at_first None is low = tt
  at_first (Some q) is low = record {
    low = low;
    one = inr (sym is);
    before_set = λ r below. absurd (omega (arith, below));
    before_found = subst (λ o. IfSome o (StandsBefore ranks q)) is (stands_itself ranks q);
  }

  pub at_first_none : (o : Option ℕ) → o ≡ found → IfNone o (NoneBelow 0 set × (found ≡ None))
  at_first_none None is = (λ r below. absurd (omega (arith, below)), sym is)
  at_first_none (Some q) is = tt

  module _ (n : ℕ) (first : Option ℕ) (some : IfSome first (IsFirstRanked ranks n set found)) (none : IfNone first (NoneBelow n set × (found ≡ None))) where
    -- all of them are below 64
    pub first_low : IfSome first (λ q. q < 64)
    first_low = by first some
      where
        by : (o : Option ℕ) → IfSome o (IsFirstRanked ranks n set found) → IfSome o (λ q. q < 64)
        by None is = tt
        by (Some q) is = is.low

    -- a number that isn't a member
    pub passed_some : (IsBitSet set n → ⊥) → IfSome first (IsFirstRanked ranks (n + 1) set found)
    passed_some not = by first some
      where
        by : (o : Option ℕ) → IfSome o (IsFirstRanked ranks n set found) → IfSome o (IsFirstRanked ranks (n + 1) set found)
        by None is = tt
        by (Some q) is = record {
          low = is.low;
          one = is.one;
          before_set = below_more (λ r. IsBitSet set r → StandsBefore ranks q r) n is.before_set (λ has. absurd (not has));
          before_found = is.before_found;
        }

    pub passed_none : (IsBitSet set n → ⊥) → IfNone first (NoneBelow (n + 1) set × (found ≡ None))
    passed_none not = by first none
      where
        by : (o : Option ℕ) → IfNone o (NoneBelow n set × (found ≡ None)) → IfNone o (NoneBelow (n + 1) set × (found ≡ None))
        by None is = (below_more (λ r. IsBitSet set r → ⊥) n is.0 not, is.1)
        by (Some q) is = tt

    -- a member
    pub taken : n < 64 → IsBitSet set n → (q : ℕ) → IsSooner ranks first n q → IsFirstRanked ranks (n + 1) set found q
    taken low has q is = by first some none is
      where
        by : (o : Option ℕ) → IfSome o (IsFirstRanked ranks n set found) → IfNone o (NoneBelow n set × (found ≡ None)) → IsSooner ranks o n q → IsFirstRanked ranks (n + 1) set found q
        by None before empty so =
            let here : q ≡ n = ⊎_elim (λ (e : q ≡ n). e) (λ (e : None ≡ Some q). absurd (cc)) so.one in
            record {
              low = subst (λ x. x < 64) (sym here) low;
              one = inl (subst (IsBitSet set) (sym here) has);
              before_set = below_more (λ r. IsBitSet set r → StandsBefore ranks q r) n (λ r below member. absurd (empty.0 r below member)) (λ member. so.before_next);
              before_found = subst (λ o. IfSome o (StandsBefore ranks q)) (sym empty.1) tt;
            }
        by (Some b) before empty so = record {
          low = ⊎_elim (λ (e : q ≡ n). subst (λ x. x < 64) (sym e) low) (λ (e : Some b ≡ Some q). let same : b ≡ q = cc in subst (λ x. x < 64) same before.low) so.one;
          one = ⊎_elim (λ (e : q ≡ n). inl (subst (IsBitSet set) (sym e) has)) (λ (e : Some b ≡ Some q). let same : b ≡ q = cc in subst (λ x. IsBitSet set x ⊎ (found ≡ Some x)) same before.one) so.one;
          before_set = below_more (λ r. IsBitSet set r → StandsBefore ranks q r) n (λ r below member. stands_through ranks q b r so.before_found (before.before_set r below member)) (λ member. so.before_next);
          before_found = through found before.before_found;
        }
          where
            through : (o : Option ℕ) → IfSome o (StandsBefore ranks b) → IfSome o (StandsBefore ranks q)
            through None far = tt
            through (Some r) far = stands_through ranks q b r so.before_found far
