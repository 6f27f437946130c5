-- What holds of every core that events can lead to.
use Rattle.std.specs.Prelude.{◌≡◌, ◌≤◌, ◌<◌, ℕ, false, List, [], length, get_or, slice_get, replicate, take, drop, Some, None, Ok, Err}
use Rattle.std.specs.declared.result.Result.{Result}
use Rattle.std.specs.List.{Contains, filter_map}
use Rattle.ss_model.specs.declared.catalog.Catalog.{Catalog}
use Rattle.ss_model.specs.declared.entry.Listed.{Listed}
use Rattle.ss_model.specs.Database.{empty_database}
use Rattle.ss_model.specs.Replays.{Replays}
use Rattle.ss_model.specs.Orders.{Orders}
use Rattle.ss_model.specs.Report.{client_index, Rising}
use Rattle.ss_model.specs.parts.ListLocality.{Untouched}
use Rattle.ss_model.specs.Accepted.{Accepted}
use Rattle.ss_core.specs.declared.machine.Core.{Core}
use Rattle.ss_core.specs.declared.machine.Stage.TheVariants.{Still}
use Rattle.ss_core.specs.declared.machine.Event.{Event}
use Rattle.ss_core.specs.declared.machine.Event.TheVariants.{Recover}
use Rattle.ss_core.specs.declared.machine.StepError.{StepError}
use Rattle.ss_core.specs.declared.machine.StepError.TheVariants.{NotEnabled}
use Rattle.ss_core.specs.Counts.{crash_counts}
use Rattle.ss_core.specs.Machine.{Happens, AllHappen, CannotHappen}

-- the core that is opened with this list, all of which both halves cover
abbrev pub opened_core : Catalog → ℕ → List Listed → Core
opened_core catalog parts list = record {
  catalog = catalog;
  parts = parts;
  base = length list;
  list = list;
  known = replicate parts (length list);
  hands = replicate parts None;
  halves = replicate 2 (record { front = 0; count = length list });
  selector = 0;
  stage = Still;
  receipts = [];
  halted = false;
  down = false;
}

-- events lead to it from a core that is opened with an accepted catalogue, 1 to 8 partitions and a list that replays
pub record IsReachable (c : Core) : Type 0 where
  pub catalog : Catalog
  pub parts : ℕ
  pub first : List Listed
  pub events : List Event
  pub accepted : Accepted catalog
  pub some : 1 ≤ parts
  pub few : parts ≤ 8
  pub replays : Replays catalog (empty_database catalog) first
  pub happen : AllHappen (opened_core catalog parts first) events c

-- the core that a call leaves, or hands back with an error
abbrev pub core_left : Result Core (StepError × Core) → Core
core_left (Ok d) = d
core_left (Err e) = e.1

-- the entries before a place are there, and as they were
abbrev pub SameBefore : ℕ → List Listed → List Listed → Type 0
SameBefore place old new = (place ≤ length new) × (take place new ≡ take place old)

-- what holds of each of them
pub record IsSafe (c : Core) : Type 0 where
  -- the list is one serial execution, in which each procedure takes its batches in order
  pub replays : Replays c.catalog (empty_database c.catalog) c.list
  pub orders : Orders c.catalog (empty_database c.catalog) c.list
  -- each client's requests since the opening are in their order
  pub in_turn : (client : ℕ) → Rising (filter_map (λ (l : Listed). client_index client l.entry) (drop c.base c.list))
  -- nothing past what is known of a partition touches it
  pub known : (part : ℕ) → part < c.parts → Untouched c.catalog c.parts (drop (get_or c.known part 0) c.list) part
  -- a crash now leaves all entries that a receipt was given for, and no more than there are
  pub received : (receipt count : ℕ) → Contains c.receipts receipt → Contains (crash_counts c) count → receipt ≤ count
  pub counted : (count : ℕ) → Contains (crash_counts c) count → count ≤ length c.list
  -- and a recovery keeps the entries below each receipt
  pub recovers : (d : Core) → Happens c Recover d → (receipt : ℕ) → Contains c.receipts receipt → SameBefore receipt c.list d.list

-- whatever happened between c and d, crashes among it: each receipt is still there, and so are the entries below it
abbrev pub ReceiptsStay : Core → Core → Type 0
ReceiptsStay c d = (receipt : ℕ) → Contains c.receipts receipt → Contains d.receipts receipt × SameBefore receipt c.list d.list

-- so many events happened, and lead to d, where the next one was refused: for want of memory, or since it cannot happen
pub record IsRefusal (c : Core) (events : List Event) (error : StepError) (d : Core) : Type 0 where
  pub count : ℕ
  pub event : Event
  pub next : slice_get events count ≡ Some event
  pub happen : AllHappen c (take count events) d
  pub cannot : error ≡ NotEnabled → CannotHappen d event
