-- Where a weak replay stops: no execution has a place from 2^60 on.
use Rattle.std.specs.Prelude.{◌≡◌, ◌⊎◌, ◌≤◌, ◌<◌, ◌+◌, ◌^◌, ℕ, List, length, take, slice_get, Some, None}
use Rattle.ss_model.specs.declared.catalog.Catalog.{Catalog}
use Rattle.ss_model.specs.declared.entry.Entry.{Entry}
use Rattle.ss_model.specs.declared.entry.Listed.{Listed}
use Rattle.ss_model.specs.Accepted.{Accepted}
use Rattle.ss_model.specs.Database.{Database, apply}
use Rattle.ss_model.specs.InStep.{IsInStep}
use Rattle.ss_model.specs.Replays.{Replays, database_after, after}
use Rattle.ss_model.specs.Settled.{SettlesOn}
use Rattle.ss_model.specs.Settling.{Settles, IsWeakList, after_entries, next_settled}
use Rattle.ss_model.specs.Asked.{listed_entries}

-- settling the database from this place on would pass the last place
pub record PassesLast (catalog : Catalog) (db : Database) (place : ℕ) : Type 0 where
  pub steps : List Entry
  pub settles : Settles catalog db steps
  pub past : 2 ^ 60 < place + length steps

-- an entry doesn't replay at this place: it has no value, or it and the settling behind it would pass the last place
abbrev pub StopsAt : Catalog → Database → ℕ → Entry → Type 0
StopsAt catalog db place e = (apply catalog db e ≡ None) ⊎ PassesLast catalog (database_after catalog db e) (place + 1)

-- all entries replay, with the settlings between them, up to the last place
pub record ReplaysWeakly (catalog : Catalog) (db : Database) (first : ℕ) (entries : List Entry) : Type 0 where
  pub list : List Listed
  pub is_weak : IsWeakList catalog db entries (listed_entries list)
  pub replays : Replays catalog db list
  pub few : first + length list ≤ 2 ^ 60

-- so many first ones do, and the next one doesn't
pub record StopsBehind (catalog : Catalog) (db : Database) (first : ℕ) (entries : List Entry) (n : ℕ) : Type 0 where
  pub before : ReplaysWeakly catalog db first (take n entries)
  pub entry : Entry
  pub there : slice_get entries n ≡ Some entry
  pub stops : StopsAt catalog (after catalog db before.list) (first + length before.list) entry

-- law: steps that are each the next one of settling, as many as there are places left, and there is a next one: settling passes the last place
abbrev pub LoopsPassLast : Type 0
LoopsPassLast =
    (catalog : Catalog) → Accepted catalog → (db : Database) → IsInStep catalog db → (steps : List Entry) → SettlesOn catalog db steps →
    (q : ℕ) → next_settled catalog (after_entries catalog db steps) ≡ Some q → (place : ℕ) → 2 ^ 60 ≤ place + length steps → PassesLast catalog db place

-- law: entries replay, or stop at one of them, or settling what is before them passes the last place; and no two of these are so
pub record StopsOnce (catalog : Catalog) (db : Database) (first : ℕ) (entries : List Entry) : Type 0 where
  pub one_stop : (m n : ℕ) → StopsBehind catalog db first entries m → StopsBehind catalog db first entries n → m ≡ n
  pub no_stop : (n : ℕ) → ReplaysWeakly catalog db first entries → StopsBehind catalog db first entries n → ⊥
  pub unsettled : (some : List Entry) → PassesLast catalog db first → ReplaysWeakly catalog db first some → ⊥

-- law: this holds of any entries
abbrev pub WeakStopsOnce : Type 0
WeakStopsOnce = (catalog : Catalog) (db : Database) (first : ℕ) (entries : List Entry) → StopsOnce catalog db first entries
