-- Which number is reported: the least of those that are refused.
use Rattle.std.specs.Prelude.{◌≡◌, ◌<◌, ℕ, Option, Some, None}

-- the least number of which this holds, and none where it holds of no number
abbrev pub IsFirst : (ℕ → Type 0) → Option ℕ → Type 0
IsFirst P (Some n) = P n × ((k : ℕ) → k < n → P k → ⊥)
IsFirst P None = (k : ℕ) → P k → ⊥

-- the least number that has something, and what it has
abbrev pub IsFirstWith : (ℕ → Option ℕ) → Option (ℕ × ℕ) → Type 0
IsFirstWith f (Some x) = (f x.0 ≡ Some x.1) × ((k : ℕ) → k < x.0 → f k ≡ None)
IsFirstWith f None = (k : ℕ) → f k ≡ None
