-- The ready procedure that stands first in the order of settling is the next one that the model settles.
use Rattle.std.proofs.Common.{◌≡◌, ◌≤◌, ◌<◌, ◌+◌, inl, inr, ⊎_elim, ℕ, zero, suc, nat_lt, Bool, true, false, cond, List, length, get_or, Some, None, IfSome, IfNone, refl, sym, ap, ◌∙◌, subst, arith, add-one, below_more, true≢false}
use Rattle.std.proofs.lemmas.Bool.{cases_lt, ltb-true, ltb-false}
use Rattle.std.specs.declared.option.Option.{Option}
use Rattle.std.specs.List.{fold, filter, range_with_len}
use Rattle.ss_model.specs.declared.catalog.Catalog.{Catalog}
use Rattle.ss_model.specs.Database.{Database, batch_count, is_ready}
use Rattle.ss_model.specs.Settling.{is_ready_now, lower_rank, next_settled, rank}
use Rattle.ss_model.proofs.CallerLemmas.{procedure_there}
use Rattle.ss_sched.specs.Ranks.{AreRanks}
use Rattle.ss_sched.proofs.NextStep.{fold_more}
use Rattle.ss_settle.specs.Ranking.{ComesBefore, StandsBefore}
use Rattle.ss_settle.proofs.Ranked.{comes_through}

-- two that come before each other are one
one_number : (a b p q : ℕ) → ComesBefore a p b q → ComesBefore b q a p → p ≡ q
one_number a b p q (inl low) (inl lower) = absurd (omega (arith, low, lower))
one_number a b p q (inl low) (inr same) = absurd (let e = same.0 in omega (arith, low, e))
one_number a b p q (inr same) (inl lower) = absurd (let e = same.0 in omega (arith, lower, e))
one_number a b p q (inr same) (inr too) = let x = same.1 in let y = too.1 in omega (arith, x, y)

-- of a rank that is no higher, and of a number that is no greater
comes_first : (a b p q : ℕ) → a ≤ b → p ≤ q → ComesBefore a p b q
comes_first a b p q no_higher earlier = ⊎_elim (λ (low : a < b). inl low) (λ (high : b ≤ a). inr (omega (arith, no_higher, high), earlier)) (cases_lt a b)

module _ (catalog : Catalog) (test : ℕ → Bool) where
  -- one stands before another by their ranks
  abbrev Before : ℕ → ℕ → Type 0
  Before q r = ComesBefore (rank catalog q) q (rank catalog r) r

  -- of the procedures below a number that pass a test this stands first
  record IsFirstBelow (n q : ℕ) : Type 0 where
    low : q < n
    passes : test q ≡ true
    first : (r : ℕ) → r < n → test r ≡ true → Before q r

  abbrev NonePasses : ℕ → Type 0
  NonePasses n = (r : ℕ) → r < n → test r ≡ true → ⊥

  abbrev IsFirst : ℕ → Option ℕ → Type 0
  IsFirst n o = IfSome o (IsFirstBelow n) × IfNone o (NonePasses n)

  -- one that does not pass
  passed_by : (n : ℕ) → test n ≡ false → (o : Option ℕ) → IsFirst n o → IsFirst (n + 1) o
  passed_by n fails None was = (tt, below_more (λ r. test r ≡ true → ⊥) n was.1 (λ passes. true≢false (sym passes ∙ fails)))
  passed_by n fails (Some b) was =
      let low : b < n = was.0.low in (
        record {
          low = omega arith;
          passes = was.0.passes;
          first = below_more (λ r. test r ≡ true → Before b r) n was.0.first (λ passes. absurd (true≢false (sym passes ∙ fails)));
        },
        tt,
      )

  -- one that does
  joined : (n : ℕ) → test n ≡ true → (o : Option ℕ) → IsFirst n o → IsFirst (n + 1) (lower_rank catalog o n)
  joined n passes None was = (
    record {
      low = omega arith;
      passes = passes;
      first = below_more (λ r. test r ≡ true → Before n r) n (λ r low passes. absurd (was.1 r low passes)) (λ passes. comes_first (rank catalog n) (rank catalog n) n n (omega arith) (omega arith));
    },
    tt,
  )
  joined n passes (Some b) was = by (nat_lt (rank catalog n) (rank catalog b)) refl
    where
      by : (lower : Bool) → nat_lt (rank catalog n) (rank catalog b) ≡ lower → IsFirst (n + 1) (cond lower (Some n) (Some b))
      by true is =
          let nearer : Before n b = inl (ltb-true (rank catalog n) (rank catalog b) is) in (
            record {
              low = omega arith;
              passes = passes;
              first = below_more (λ r. test r ≡ true → Before n r) n (λ r low passes. comes_through (rank catalog n) (rank catalog b) (rank catalog r) n b r nearer (was.0.first r low passes))
                  (λ passes. comes_first (rank catalog n) (rank catalog n) n n (omega arith) (omega arith));
            },
            tt,
          )
      by false is =
          let low : b < n = was.0.low in (
            record {
              low = omega arith;
              passes = was.0.passes;
              first = below_more (λ r. test r ≡ true → Before b r) n was.0.first
                  (λ passes. comes_first (rank catalog b) (rank catalog n) b n (ltb-false (rank catalog n) (rank catalog b) is) (omega arith));
            },
            tt,
          )

  -- what is folded over these numbers
  found_first : (n : ℕ) → IsFirst n (fold (lower_rank catalog) None (filter test (range_with_len 0 n)))
  found_first zero = (tt, λ r low passes. absurd (omega (arith, low)))
  found_first (suc n) =
      subst (λ m. IsFirst m (fold (lower_rank catalog) None (filter test (range_with_len 0 m)))) (add-one n)
      (by (test n) refl (found_first n))
    where
      by : (b : Bool) → test n ≡ b → IsFirst n (fold (lower_rank catalog) None (filter test (range_with_len 0 n))) → IsFirst (n + 1) (fold (lower_rank catalog) None (filter test (range_with_len 0 (n + 1))))
      by true is was = subst (IsFirst (n + 1)) (sym (fold_more (lower_rank catalog) test None n true is)) (joined n is (fold (lower_rank catalog) None (filter test (range_with_len 0 n))) was)
      by false is was = subst (IsFirst (n + 1)) (sym (fold_more (lower_rank catalog) test None n false is)) (passed_by n is (fold (lower_rank catalog) None (filter test (range_with_len 0 n))) was)

module _ (catalog : Catalog) (ranks : List ℕ) (are : AreRanks catalog ranks) (d : Database) where
  ready_there : (q : ℕ) → is_ready_now catalog d q ≡ true → q < length catalog.procedures
  ready_there q ready = procedure_there (is_ready d q (batch_count d q)) catalog.procedures q ready

  pub first_is_next : (q : ℕ) → is_ready_now catalog d q ≡ true → ((r : ℕ) → is_ready_now catalog d r ≡ true → StandsBefore ranks q r) → next_settled catalog d ≡ Some q
  first_is_next q ready before = by (next_settled catalog d) (found_first catalog (is_ready_now catalog d) (length catalog.procedures))
    where
      by : (o : Option ℕ) → IsFirst catalog (is_ready_now catalog d) (length catalog.procedures) o → o ≡ Some q
      by None first = absurd (first.1 q (ready_there q ready) ready)
      by (Some b) first =
          let there = ready_there q ready in
          let up = first.0.first q there ready in
          let down : ComesBefore (rank catalog q) q (rank catalog b) b
          = subst (λ x. ComesBefore x q (rank catalog b) b) (are q there) (subst (λ x. ComesBefore (get_or ranks q 0) q x b) (are b first.0.low) (before b first.0.passes)) in
          ap (λ (x : ℕ). Some x) (one_number (rank catalog b) (rank catalog q) b q up down)
