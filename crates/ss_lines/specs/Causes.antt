-- How failures are counted, and how much of a source was taken.
use Rattle.std.specs.Prelude.{ℕ, ◌+◌, ◌-◌, ◌^◌, ◌≤◌, min, List, length, Result, MatchResult, Option, ◌≡◌}
use Rattle.std.specs.Io.KnownBytes.{Consumes}

-- a failure is counted once, unless the count is at the greatest number of 64 bits, and nothing else is counted
abbrev pub CountsFailures : {T E : Type 0} → ℕ → ℕ → Result T E → Type 0
CountsFailures before now result = MatchResult result (λ _. now ≡ before) (λ _. now ≡ min (before + 1) (2 ^ 64 - 1))

-- of the bytes that were known to be left, at most n were taken, from the front
abbrev pub TakesAtMost : ℕ → Option (List ℕ) → Option (List ℕ) → Type 0
TakesAtMost n old new = (bs : List ℕ) × Consumes old new bs × (length bs ≤ n)
