-- Which counts a crash leaves.
use Rattle.std.specs.Prelude.{◌≡◌, ◌<◌, ℕ, length}
use Rattle.std.specs.List.{Contains}
use Rattle.ss_core.specs.declared.machine.Core.{Core}
use Rattle.ss_core.specs.Counts.{selected_count, crash_counts, crash}

-- some crash leaves this count
abbrev pub IsLeft : Core → ℕ → Type 0
IsLeft c count = (gate : ℕ) × (selector : ℕ) × (gate < 2) × (selector < 2) × (selected_count (crash c gate selector) ≡ count)

-- law: a crash leaves one of the counts that it may leave, and each of them is left by some crash
pub record LeavesCounts (c : Core) : Type 0 where
  pub one : (gate selector : ℕ) → Contains (crash_counts c) (selected_count (crash c gate selector))
  pub each : (count : ℕ) → Contains (crash_counts c) count → IsLeft c count

-- law: this holds of each core with two halves
abbrev pub CrashesLeaveCounts : Type 0
CrashesLeaveCounts = (c : Core) → length c.halves ≡ 2 → LeavesCounts c
