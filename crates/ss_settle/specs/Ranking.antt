-- The order in which settling runs procedures that are ready.
use Rattle.std.specs.Prelude.{◌≡◌, ◌<◌, ◌≤◌, ◌⊎◌, ℕ, List, Some, IfSome, get_or}
use Rattle.std.specs.Int.{IsBitSet}
use Rattle.std.specs.declared.option.Option.{Option}

-- a rank and a number come before others, or are the same: by rank, and of equal ranks by number
abbrev pub ComesBefore : ℕ → ℕ → ℕ → ℕ → Type 0
ComesBefore rank number other_rank other = (rank < other_rank) ⊎ ((rank ≡ other_rank) × (number ≤ other))

-- a procedure stands before another in this order, or is the same
abbrev pub StandsBefore : List ℕ → ℕ → ℕ → Type 0
StandsBefore ranks q r = ComesBefore (get_or ranks q 0) q (get_or ranks r 0) r

-- of a procedure found so far and a next one this stands first
pub record IsSooner (ranks : List ℕ) (found : Option ℕ) (next q : ℕ) : Type 0 where
  pub one : (q ≡ next) ⊎ (found ≡ Some q)
  pub before_next : StandsBefore ranks q next
  pub before_found : IfSome found (StandsBefore ranks q)

-- of the members of a set below a number and a procedure found before this stands first
pub record IsFirstRanked (ranks : List ℕ) (n set : ℕ) (found : Option ℕ) (q : ℕ) : Type 0 where
  pub low : q < 64
  pub one : IsBitSet set q ⊎ (found ≡ Some q)
  pub before_set : (r : ℕ) → r < n → IsBitSet set r → StandsBefore ranks q r
  pub before_found : IfSome found (StandsBefore ranks q)
