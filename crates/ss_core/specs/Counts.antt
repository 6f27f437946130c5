-- What the disk holds, as counts: each half covers so many entries of the list, and a crash may leave one count or another.
use Rattle.std.specs.Prelude.{ℕ, ◌-◌, ◌%◌, true, cond, ◌==◌, List, [], ◌∷◌, get_or, set, map, Option, None}
use Rattle.ss_core.specs.declared.machine.Core.{Core}
use Rattle.ss_core.specs.declared.machine.Half.{Half}
use Rattle.ss_core.specs.declared.machine.Stage.{Stage}
use Rattle.ss_core.specs.declared.machine.Stage.TheVariants.{BodySynced, Gate, Synced, Selecting}

-- the half that a selector's byte names: the first for an even one, and the second for an odd one
abbrev pub selected_half : ℕ → ℕ
selected_half byte = byte % 2

-- the half that it doesn't name; this number is also a byte that names it
abbrev pub other_half : ℕ → ℕ
other_half byte = 1 - byte % 2

-- a half that is not there covers nothing
abbrev pub half_at : List Half → ℕ → Half
half_at halves i = get_or halves i (record { front = 0; count = 0 })

-- how many entries the selected half covers
abbrev pub selected_count : Core → ℕ
selected_count c = (half_at c.halves (selected_half c.selector)).count

-- how many entries the other half covers
abbrev pub other_count : Core → ℕ
other_count c = (half_at c.halves (other_half c.selector)).count

-- the core whose selected half covers n entries
abbrev pub with_count : Core → ℕ → Core
with_count c n = record c { halves = set c.halves (selected_half c.selector) (record (half_at c.halves (selected_half c.selector)) { count = n }) }

-- the core whose other half begins and ends where the selected one ends
abbrev pub with_generation : Core → Core
with_generation c = record c { halves = set c.halves (other_half c.selector) (record { front = selected_count c; count = selected_count c }) }

-- ---- crashes

-- the counts that an unsynced write may leave, beside that of the selected half
abbrev pub unsynced_counts : Stage → ℕ → List ℕ
unsynced_counts (Gate n) other = n ∷ []
unsynced_counts Selecting other = other ∷ []
unsynced_counts _ other = []

-- the counts that a crash now may leave
abbrev pub crash_counts : Core → List ℕ
crash_counts c = selected_count c ∷ unsynced_counts c.stage (other_count c)

-- what becomes of an unsynced write in a crash: a gate is open exactly where `gate` is 1, and a selector is any byte
abbrev pub crash_write : Stage → ℕ → ℕ → Core → Core
crash_write (Gate n) gate selector c = cond (gate == 1) (with_count c n) c
crash_write Selecting gate selector c = record c { selector = selector }
crash_write _ gate selector c = c

-- nobody holds anything
abbrev pub empty_hands : List (Option ℕ) → List (Option ℕ)
empty_hands hands = map (λ hand. None) hands

-- what a crash leaves
abbrev pub crash : Core → ℕ → ℕ → Core
crash c gate selector = record (crash_write c.stage gate selector c) { hands = empty_hands c.hands; down = true }

-- the stage behind a call of the disk that failed: what it was to write may be there, unsynced
abbrev pub failed_stage : Stage → Stage
failed_stage (BodySynced n) = Gate n
failed_stage Synced = Selecting
failed_stage stage = stage
