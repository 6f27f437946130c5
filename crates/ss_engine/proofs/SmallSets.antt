-- Members of small sets, one after another.
use Rattle.std.proofs.Common.{◌≡◌, ◌+◌, ◌≢◌, ◌⊎◌, inl, inr, ℕ, true, false, ◌==◌, subst, arith}
use Rattle.std.proofs.lemmas.Bool.Decides.{eqb_tells}
use Rattle.std.specs.Int.{IsBitSet}
use Rattle.ss_engine.specs.Least.{NoneBelow}

pub none_more : (set n : ℕ) → NoneBelow n set → (IsBitSet set n → ⊥) → NoneBelow (n + 1) set
none_more set n none not q low member = by (eqb_tells q n)
  where
    by : ((q == n) ≡ true) × (q ≡ n) ⊎ ((q == n) ≡ false) × (q ≢ n) → ⊥
    by (inl same) = not (subst (IsBitSet set) same.1 member)
    by (inr other) = let apart : q ≢ n = other.1 in none q (omega arith) member
