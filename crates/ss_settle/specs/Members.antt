-- Members of a set of small numbers.
use Rattle.std.specs.Prelude.{ℕ, ◌<◌}
use Rattle.std.specs.Int.{IsBitSet}

-- no member is below a number
abbrev pub NoneBelow : ℕ → ℕ → Type 0
NoneBelow n set = (q : ℕ) → q < n → IsBitSet set q → ⊥
