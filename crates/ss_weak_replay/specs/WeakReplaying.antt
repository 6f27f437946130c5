-- What a weak replay comes to, on the program's database.
use Rattle.std.specs.Prelude.{◌≡◌, ◌≤◌, ◌+◌, ◌^◌, ℕ, Bool, true, false, not, List, [], ◌∷◌, ◌++◌, length, take, Some}
use Rattle.std.specs.List.{filter}
use Rattle.ss_model.specs.declared.catalog.Catalog.{Catalog}
use Rattle.ss_model.specs.declared.entry.Entry.{Entry}
use Rattle.ss_model.specs.declared.entry.Listed.{Listed}
use Rattle.ss_model.specs.declared.entry.Outcome.{Outcome}
use Rattle.ss_model.specs.Asked.{listed_entries}
use Rattle.ss_model.specs.Database.{Database as Model}
use Rattle.ss_model.specs.Replays.{database_after, entry_outcome}
use Rattle.ss_model.specs.Report.{is_step}
use Rattle.ss_model.specs.Settling.{Settles, IsWeakList}
use Rattle.ss_shard.specs.declared.database.Database.{Database}
use Rattle.ss_shard.specs.Databases.{StandsFor}
use Rattle.ss_weak_lists.specs.Stops.{PassesLast, StopsAt, StopsBehind}
use Rattle.ss_replay.specs.Replaying.{IsReplayed}
use Rattle.ss_weak_replay.specs.declared.error.WeakError.{WeakError}
use Rattle.ss_weak_replay.specs.declared.error.WeakError.TheVariants.{NoMemory, Unsettled, Foreign}

-- the calls, pushes and installs of a list, with their outcomes
abbrev pub asked_listed : List Listed → List Listed
asked_listed list = filter (λ (l : Listed). not (is_step l.entry)) list

-- a list goes on from another one, by whatever it is
abbrev pub GoesOnFrom : List Listed → List Listed → Type 0
GoesOnFrom old new = (rest : List Listed) × (new ≡ old ++ rest)

-- a list goes on by an entry, with its outcome on this database, and the program's database stands for the one after it
pub record IsListedBehind (catalog : Catalog) (d : Model) (entry : Entry) (old new : List Listed) (database : Database) : Type 0 where
  pub outcome : Outcome
  pub is : new ≡ old ++ record { entry = entry; outcome = outcome } ∷ []
  pub gives : entry_outcome catalog d entry ≡ Some outcome
  pub stands : StandsFor catalog database (database_after catalog d entry)

-- a list goes on by what settling this database runs, and the program's database stands for the one after that
pub record IsSettledBehind (catalog : Catalog) (d : Model) (old new : List Listed) (database : Database) : Type 0 where
  pub steps : List Listed
  pub is : new ≡ old ++ steps
  pub settles : Settles catalog d (listed_entries steps)
  pub replayed : IsReplayed catalog d steps database

-- it does, or settling would pass the last place from this one on
abbrev pub SettlesBehind : Catalog → Model → ℕ → List Listed → List Listed → Database → Bool → Type 0
SettlesBehind catalog d place old new database true = IsSettledBehind catalog d old new database
SettlesBehind catalog d place old new database false = PassesLast catalog d place

-- a list goes on by an entry and by what settling runs behind it, and the program's database stands for the one after that
pub record IsRunBehind (catalog : Catalog) (d : Model) (entry : Entry) (old new : List Listed) (database : Database) : Type 0 where
  pub outcome : Outcome
  pub steps : List Listed
  pub is : new ≡ old ++ record { entry = entry; outcome = outcome } ∷ steps
  pub settles : Settles catalog (database_after catalog d entry) (listed_entries steps)
  pub replayed : IsReplayed catalog d (record { entry = entry; outcome = outcome } ∷ steps) database

-- it does, or a replay stops at the entry at this place
abbrev pub RunsBehind : Catalog → Model → ℕ → Entry → List Listed → List Listed → Database → Bool → Type 0
RunsBehind catalog d place entry old new database true = IsRunBehind catalog d entry old new database
RunsBehind catalog d place entry old new database false = StopsAt catalog d place entry

-- the list is the weak one of the entries, it has its places, and the program's database stands for the one behind it
pub record IsWeaklyReplayed (catalog : Catalog) (d : Model) (first : ℕ) (entries : List Entry) (list : List Listed) (database : Database) : Type 0 where
  pub is_weak : IsWeakList catalog d entries (listed_entries list)
  pub few : first + length list ≤ 2 ^ 60
  pub replayed : IsReplayed catalog d list database

-- these are the entries before the first one that doesn't replay
pub record StopsBehindThese (catalog : Catalog) (d : Model) (first : ℕ) (entries : List Entry) (before : List Listed) : Type 0 where
  pub are : listed_entries before ≡ take (length before) entries
  pub stops : StopsBehind catalog d first entries (length before)

-- what an error says of the entries: out of memory says nothing
abbrev pub StopsWeaklyAsSaid : Catalog → Model → ℕ → List Entry → WeakError → Type 0
StopsWeaklyAsSaid catalog d first entries NoMemory = Unit {0}
StopsWeaklyAsSaid catalog d first entries Unsettled = PassesLast catalog d first
StopsWeaklyAsSaid catalog d first entries (Foreign before) = StopsBehindThese catalog d first entries before
