-- Clients that make their requests at the same time.
use Rattle.std.specs.Prelude.{◌≡◌, ◌≢◌, ◌+◌, ◌≤◌, ◌<◌, ℕ, true, List, [], ◌∷◌, drop, length, slice_get, slice_index_or, Option, Some, IsSome, IfSome}
use Rattle.std.specs.List.{AllByRecursion, list_all}
use Rattle.ss_model.specs.declared.catalog.Catalog.{Catalog}
use Rattle.ss_model.specs.declared.entry.Answer.{Answer}
use Rattle.ss_model.specs.declared.entry.Answer.TheVariants.{Listed as ListedAnswer, NoMemory, ListFull, Halted}
use Rattle.ss_model.specs.declared.entry.Outcome.{Outcome}
use Rattle.ss_model.specs.declared.entry.Request.{Request}
use Rattle.ss_model.specs.Database.{fits_entry}
use Rattle.ss_model.specs.Report.{asked_entries}
use Rattle.ss_report_laws.specs.Replies.{requests_of, IsListedOr}
use Rattle.ss_report_laws.specs.Resuming.{TellsNone}
use Rattle.ss_lanes.specs.Lanes.{LaneView, IsFresh, start_of}
use Rattle.ss_lanes.specs.Served.{IsServed}
use Rattle.ss_lanes.specs.Told.{told}
use Rattle.ss_lanes.specs.declared.client.Client.{Client}

-- whether each request names what the catalogue has, with arguments or rows that fit it
abbrev pub AllFit : Catalog → List Request → Type 0
AllFit catalog requests = list_all (fits_entry catalog) (asked_entries requests) ≡ true

-- this holds of each item at its number
abbrev pub EachAt : {A : Type 0} → (ℕ → A → Type 0) → List A → Type 0
EachAt P xs = (k : ℕ) (x : _) → slice_get xs k ≡ Some x → P k x

-- an answer to a request that is not listed, where a list has at least so many entries, and the disk failed at these faults, if at any:
-- there was no memory for it, or the list was full, or the disk had failed
abbrev pub IsUnlisted : ℕ → ℕ → ℕ → Answer → Type 0
IsUnlisted limit entries faults NoMemory = Unit {0}
IsUnlisted limit entries faults (ListFull count) = (count ≡ limit) × (limit ≤ entries)
IsUnlisted limit entries faults (ListedAnswer place outcome) = ⊥
IsUnlisted limit entries faults (Halted n) = (n ≡ faults) × (n ≢ 0)

-- each of some answers is listed, or is one that may be given to a request that is not
abbrev pub AreListedOr : ℕ → ℕ → ℕ → List Answer → Type 0
AreListedOr limit entries faults answers = AllByRecursion (IsListedOr (IsUnlisted limit entries faults)) answers

-- each of these places is no less than a number
abbrev pub AllFrom : ℕ → List (ℕ × Outcome) → Type 0
AllFrom place places = AllByRecursion (λ (p : ℕ × Outcome). place ≤ p.0) places

-- behind an answer that the list is full no listed place is within the limit, and behind one that the disk has failed none is listed
abbrev pub StopsBeyond : ℕ → ℕ → List Answer → Type 0
StopsBeyond first limit [] = Unit {0}
StopsBeyond first limit (ListedAnswer place outcome ∷ answers) = StopsBeyond first limit answers
StopsBeyond first limit (NoMemory ∷ answers) = StopsBeyond first limit answers
StopsBeyond first limit (ListFull count ∷ answers) = AllFrom (first + limit) (told answers) × StopsBeyond first limit answers
StopsBeyond first limit (Halted faults ∷ answers) = AllByRecursion TellsNone answers × StopsBeyond first limit answers

-- of these requests those that a client makes here: its own, from its first one here on
abbrev pub requests_from : List ℕ → ℕ → List Request → List Request
requests_from starts client requests = drop (start_of starts client) (requests_of client requests)

-- each client has as many of these requests as it passes over
abbrev pub StartWithin : List ℕ → List Request → Type 0
StartWithin starts requests = (client : ℕ) → start_of starts client ≤ length (requests_of client requests)

-- the lane of a client that made all of these requests that are its own, from its first one here on, in order, and has an answer to each
pub record HasMade (first limit : ℕ) (starts : List ℕ) (requests : List Request) (client : ℕ) (lane : LaneView) : Type 0 where
  pub client_is : lane.client ≡ client
  pub start_is : lane.start ≡ start_of starts client
  pub served : IsServed first (requests_from starts client requests) lane
  pub beyond : StopsBeyond first limit lane.answers
  pub others : AreListedOr limit (length lane.list) lane.due.faults lane.answers

-- the lane of a client that made no request here yet, with room for the answers to all of these that it is to make
pub record MayBegin (first : ℕ) (starts : List ℕ) (requests : List Request) (client : ℕ) (lane : LaneView) : Type 0 where
  pub fresh : IsFresh first client (start_of starts client) lane
  pub room : length (requests_from starts client requests) ≤ lane.spare

-- ---- in threads

-- a client's lane, where it is not away
abbrev pub lane_of : {I : Type 0} → Client I → Option LaneView
lane_of c = c.lane

-- no lane is away
abbrev pub AllThere : {I : Type 0} → List (Client I) → Type 0
AllThere {I} cs = AllByRecursion (λ (c : Client I). IsSome c.lane) cs

abbrev pub some_lane : LaneView → Option LaneView
some_lane lane = Some lane

-- a client has its lane, and of that this holds
pub record HasLane {I : Type 0} (P : LaneView → Type 0) (c : Client I) : Type 0 where
  pub there : IsSome c.lane
  pub lane_is : IfSome c.lane P

-- so many clients, and of the lane of each this holds at its number
pub record EachHasLane {I : Type 0} (many : ℕ) (P : ℕ → LaneView → Type 0) (cs : List (Client I)) : Type 0 where
  pub many_are : length cs ≡ many
  pub each : (k : ℕ) (d : Client I) → k < length cs → HasLane (P k) (slice_index_or cs k d)
