-- A map is united of its parts.
use Rattle.std.proofs.Common.{◌≡◌, ℕ, ◌+◌, ◌<◌, ◌==◌, suc, zero, cond, sym, ap, ◌∙◌, Some, None, slice_get, arith}
use Rattle.std.specs.declared.cmp.Ordering.{Ordering}
use Rattle.std.specs.Cmp.{IsTotalOrder}
use Rattle.std.specs.FinMap as finite
use Rattle.std.specs.FinMap.{IsAntisymmetric}
use Rattle.ss_table.specs.Unions.{united, AtHome, cuts}
use Rattle.ss_table.proofs.Unions.{get_at}
use Rattle.ss_table.proofs.Joining.{same_itself}

module _ {K X : Type 0} {R : K → K → Ordering} (o : IsTotalOrder R) (same : IsAntisymmetric R) (home : K → ℕ) (m : finite.FinMap R X) where
  get_cut : (j : ℕ) (q : K) → finite.get (finite.retain_keys m (λ q. home q == j)) q ≡ cond (home q == j) (finite.get m q) None
  get_cut j q = finite.get-retain_keys m (λ q. home q == j) q (λ x t. ap (λ x. home x == j) (sym (same q x t)))

  cuts_home : (i k : ℕ) → AtHome home i (cuts home m i k)
  cuts_home i zero = tt
  cuts_home i (suc k) = ((λ q e. get_cut i q ∙ ap (λ b. cond b (finite.get m q) None) e), cuts_home (suc i) k)

  cut_there : (i k j : ℕ) → j < k → slice_get (cuts home m i k) j ≡ Some (finite.retain_keys m (λ q. home q == i + j))
  cut_there i zero j l = absurd (omega (arith, l))
  cut_there i (suc k) zero l = ap (λ a. Some (finite.retain_keys m (λ q. home q == a))) (omega arith)
  cut_there i (suc k) (suc j) l = cut_there (suc i) k j (omega (arith, l)) ∙ ap (λ a. Some (finite.retain_keys m (λ q. home q == a))) (omega arith)

  -- where each key's home is below n, the parts together are the map
  pub united_cuts : (n : ℕ) → ((q : K) → home q < n) → united (cuts home m 0 n) ≡ m
  united_cuts n within = finite.same_map o same _ _ (λ q.
      get_at o home (cuts home m 0 n) 0 (home q) _ (cuts_home 0 n) (cut_there 0 n (home q) (within q)) q (omega arith)
      ∙ get_cut (0 + home q) q ∙ ap (λ a. cond (home q == a) (finite.get m q) None) zero_more ∙ ap (λ b. cond b (finite.get m q) None) (same_itself (home q)))
    where
      zero_more : {a : ℕ} → 0 + a ≡ a
      zero_more = omega arith
