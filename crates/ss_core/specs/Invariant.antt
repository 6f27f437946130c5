-- What every event keeps true, from which the theorem follows.
use Rattle.std.specs.Prelude.{◌≡◌, ◌≤◌, ◌<◌, ℕ, List, length, get_or, drop}
use Rattle.std.specs.List.{Contains, filter_map}
use Rattle.ss_model.specs.declared.catalog.Catalog.{Catalog}
use Rattle.ss_model.specs.declared.entry.Listed.{Listed}
use Rattle.ss_model.specs.Database.{empty_database}
use Rattle.ss_model.specs.Replays.{Replays}
use Rattle.ss_model.specs.Report.{client_index, Rising}
use Rattle.ss_model.specs.parts.ListLocality.{Untouched}
use Rattle.ss_model.specs.Accepted.{Accepted}
use Rattle.ss_core.specs.declared.machine.Core.{Core}
use Rattle.ss_core.specs.declared.machine.Half.{Half}
use Rattle.ss_core.specs.declared.machine.Stage.{Stage}
use Rattle.ss_core.specs.declared.machine.Stage.TheVariants.{Body, BodySynced, Gate, GateSynced, Synced, Selecting}
use Rattle.ss_core.specs.Counts.{selected_half, other_half, half_at}

-- of the list, and what is known of it
pub record ListInvariant (catalog : Catalog) (parts base : ℕ) (list : List Listed) (known : List ℕ) : Type 0 where
  pub accepted : Accepted catalog
  pub some : 1 ≤ parts
  pub each_part : length known ≡ parts
  pub replays : Replays catalog (empty_database catalog) list
  pub in_turn : (client : ℕ) → Rising (filter_map (λ (l : Listed). client_index client l.entry) (drop base list))
  pub untouched : (part : ℕ) → part < parts → Untouched catalog parts (drop (get_or known part 0) list) part

-- a group on its way ends between what the selected half covers and the list's end; a synced one is covered; and a synced
-- generation covers as many entries as the selected half
abbrev pub StageInvariant : Stage → ℕ → ℕ → ℕ → Type 0
StageInvariant (Body n) covered other list_length = (covered ≤ n) × (n ≤ list_length)
StageInvariant (BodySynced n) covered other list_length = (covered ≤ n) × (n ≤ list_length)
StageInvariant (Gate n) covered other list_length = (covered ≤ n) × (n ≤ list_length)
StageInvariant (GateSynced n) covered other list_length = covered ≡ n
StageInvariant Synced covered other list_length = other ≡ covered
StageInvariant Selecting covered other list_length = other ≡ covered
StageInvariant _ covered other list_length = Unit {0}

-- of the disk, and the receipts that were given
pub record DiskInvariant (halves : List Half) (selector : ℕ) (stage : Stage) (receipts : List ℕ) (list_length : ℕ) : Type 0 where
  pub two : length halves ≡ 2
  pub within : (half_at halves (selected_half selector)).count ≤ list_length
  pub received : (receipt : ℕ) → Contains receipts receipt → receipt ≤ (half_at halves (selected_half selector)).count
  pub written : StageInvariant stage (half_at halves (selected_half selector)).count (half_at halves (other_half selector)).count list_length

-- of both. They speak of fields and not of the core, so an event that changes none of these fields keeps them as they are
abbrev pub CoreInvariant : Core → Type 0
CoreInvariant c = ListInvariant c.catalog c.parts c.base c.list c.known × DiskInvariant c.halves c.selector c.stage c.receipts (length c.list)
