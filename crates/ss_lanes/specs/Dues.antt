-- What of a client's answers waits for a receipt, and what the client was told of the disk.
use Rattle.std.specs.Prelude.{◌≡◌, ◌≢◌, ◌+◌, ◌-◌, ◌<◌, ◌≤◌, max, ℕ, List, ◌++◌, drop, length, Option, Some, None}
use Rattle.std.specs.List.{AllByRecursion}
use Rattle.ss_model.specs.declared.entry.Answer.{Answer}
use Rattle.ss_model.specs.declared.entry.Answer.TheVariants.{Listed as ListedAnswer, NoMemory, ListFull, Halted}
use Rattle.ss_model.specs.declared.entry.Outcome.{Outcome}
use Rattle.ss_model.specs.declared.entry.Listed.{Listed}
use Rattle.ss_report_laws.specs.Replies.{mine}
use Rattle.ss_lanes.specs.declared.due.Due.{Due}
use Rattle.ss_lanes.specs.Mines.{Mine}
use Rattle.ss_lanes.specs.Told.{told}

-- before the first answer
abbrev pub no_due : Due
no_due = record { above = 0; pending = 0; faults = 0 }

-- behind one answer more
abbrev pub due_after : Due → Answer → Due
due_after due (ListedAnswer place outcome) = record { above = max due.above (place + 1); pending = due.pending + 1; faults = due.faults }
due_after due NoMemory = due
due_after due (ListFull count) = due
due_after due (Halted faults) = due

-- once there is a receipt of all that the answers tell
abbrev pub receipted : Due → Due
receipted due = record { above = due.above; pending = 0; faults = due.faults }

-- once the client is told that the disk has failed, at these faults
abbrev pub failed_at : ℕ → Due → Due
failed_at faults due = record { above = due.above; pending = due.pending; faults = faults }

-- where an answer tells that its entry stands
abbrev pub place_of : Answer → Option ℕ
place_of (ListedAnswer place outcome) = Some place
place_of NoMemory = None
place_of (ListFull count) = None
place_of (Halted faults) = None

-- each of these places is below a number
abbrev pub AllBelow : ℕ → List (ℕ × Outcome) → Type 0
AllBelow above places = AllByRecursion (λ (p : ℕ × Outcome). p.0 < above) places

-- each of these entries stands below a count
abbrev pub StandBelow : ℕ → List Mine → Type 0
StandBelow count entries = AllByRecursion (λ (p : Mine). p.0 < count) entries

-- of some entries all but the last so many stand below a count
pub record FewOpen (entries : List Mine) (count most : ℕ) : Type 0 where
  pub safe : List Mine
  pub unsafe : List Mine
  pub parts : entries ≡ safe ++ unsafe
  pub below : StandBelow count safe
  pub few : length unsafe ≤ most

-- how many entries of a client stand from this place on, in a list that begins at a first place
abbrev pub entries_from : ℕ → ℕ → ℕ → List Listed → ℕ
entries_from client place first list = length (mine client place (drop (place - first) list))

-- an answer that the disk has failed carries its faults, of which there are some
abbrev pub IsHaltedAt : ℕ → Answer → Type 0
IsHaltedAt faults (ListedAnswer place outcome) = Unit {0}
IsHaltedAt faults NoMemory = Unit {0}
IsHaltedAt faults (ListFull count) = Unit {0}
IsHaltedAt faults (Halted n) = (n ≡ faults) × (n ≢ 0)

abbrev pub AreHaltedAt : ℕ → List Answer → Type 0
AreHaltedAt faults answers = AllByRecursion (IsHaltedAt faults) answers

-- of a client with these entries, in a list that ends at this place: all but those that wait for a receipt stand below the count that
-- was seen, at most 16 wait, no listed place is missed, and each answer that the disk has failed carries what the client was told
pub record IsDue (entries : List Mine) (end count : ℕ) (due : Due) (answers : List Answer) : Type 0 where
  pub few_open : FewOpen entries count due.pending
  pub few : due.pending ≤ 16
  pub reached : due.above ≤ end
  pub below : AllBelow due.above (told answers)
  pub halted : AreHaltedAt due.faults answers
