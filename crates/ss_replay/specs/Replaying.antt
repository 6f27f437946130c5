-- What a replay begins on, and what comes of it.
use Rattle.std.specs.Prelude.{◌≡◌, ◌⊎◌, ◌+◌, ◌<◌, ◌≤◌, ◌^◌, ℕ, List, length, map, take, slice_get, Some, None}
use Rattle.ss_model.specs.declared.catalog.Catalog.{Catalog}
use Rattle.ss_model.specs.declared.entry.Entry.{Entry}
use Rattle.ss_model.specs.declared.entry.Listed.{Listed}
use Rattle.ss_model.specs.Database.{Database as Model, apply}
use Rattle.ss_model.specs.Replays.{Replays, after}
use Rattle.ss_model.specs.WholeDatabase.{WholeDatabase, HadAtMost}
use Rattle.ss_shard.specs.declared.database.Database.{Database}
use Rattle.ss_shard.specs.Databases.{StandsFor}
use Rattle.ss_replay.specs.declared.entries.ReplayError.{ReplayError}
use Rattle.ss_replay.specs.declared.entries.ReplayError.TheVariants.{NoMemory, Foreign}

-- the program's database stands for this one, which is whole
pub record IsOn (catalog : Catalog) (database : Database) (d : Model) : Type 0 where
  pub stands : StandsFor catalog database d
  pub whole : WholeDatabase catalog d

-- it does, and no stream has had more batches than this, and no procedure has taken more
pub record IsOnAt (catalog : Catalog) (database : Database) (place : ℕ) (d : Model) : Type 0 where
  pub on : IsOn catalog database d
  pub had : HadAtMost place d

-- it does, and one more execution has its place
pub record CanTake (catalog : Catalog) (database : Database) (d : Model) : Type 0 where
  pub on : IsOn catalog database d
  pub place : ℕ
  pub had : HadAtMost place d
  pub few : place < 2 ^ 60

-- a list replays, and the program's database stands for the one after it
pub record IsReplayed (catalog : Catalog) (d : Model) (list : List Listed) (database : Database) : Type 0 where
  pub replays : Replays catalog d list
  pub stands : StandsFor catalog database (after catalog d list)

-- an entry doesn't replay at this place: no execution stands at 2^60, and where it has no value it doesn't run
abbrev pub DoesNotReplay : Catalog → Model → ℕ → Entry → Type 0
DoesNotReplay catalog d place entry = (place ≡ 2 ^ 60) ⊎ (apply catalog d entry ≡ None)

-- the first entries replay from this place on, as this list, and the one behind them doesn't
pub record StopsBehind (catalog : Catalog) (d : Model) (first : ℕ) (entries : List Entry) (list : List Listed) : Type 0 where
  pub before : map (λ (l : Listed). l.entry) list ≡ take (length list) entries
  pub replays : Replays catalog d list
  pub few : first + length list ≤ 2 ^ 60
  pub entry : Entry
  pub there : slice_get entries (length list) ≡ Some entry
  pub stops : DoesNotReplay catalog (after catalog d list) (first + length list) entry

-- what an error says of the entries: out of memory says nothing
abbrev pub StopsAsSaid : Catalog → Model → ℕ → List Entry → ReplayError → Type 0
StopsAsSaid catalog d first entries NoMemory = Unit {0}
StopsAsSaid catalog d first entries (Foreign before) = StopsBehind catalog d first entries before
