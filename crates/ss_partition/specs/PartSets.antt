-- Sets of partitions.
use Rattle.std.specs.Prelude.{◌≡◌, ◌↔◌, ℕ, Bool, true}
use Rattle.std.specs.Int.{IsBitSet}

-- a set has just the partitions that pass a test
abbrev pub HasJust : ℕ → (ℕ → Bool) → Type 0
HasJust set test = (p : ℕ) → IsBitSet set p ↔ (test p ≡ true)
