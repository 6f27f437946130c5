-- How settling ended, and which steps of a list it ran.
use Rattle.std.specs.Prelude.{◌≡◌, ℕ, List, ◌++◌, map, length, Result, Ok, Err}
use Rattle.ss_model.specs.declared.catalog.Catalog.{Catalog}
use Rattle.ss_model.specs.declared.entry.Listed.{Listed}
use Rattle.ss_model.specs.declared.entry.Entry.{Entry}
use Rattle.ss_model.specs.Database.{Database}
use Rattle.ss_model.specs.InStep.{IsInStep}
use Rattle.ss_model.specs.Replays.{after}
use Rattle.ss_model.specs.Settled as model
use Rattle.ss_model.specs.Settling.{Drained, Settles}
use Rattle.ss_commitlog.specs.declared.placed.Unlisted.{Unlisted}
use Rattle.ss_commitlog.specs.declared.placed.Unlisted.TheVariants.{NoMemory, ListFull}
use Rattle.ss_commitlog.specs.declared.rule.Item.{Item}
use Rattle.ss_commitlog.specs.Meaning.{listed_of}
use Rattle.ss_commitlog.specs.Tokens.{Known}
use Rattle.ss_settle.specs.Ready.{NoneReadyBehind, SomeReady}
use Rattle.ss_settle.specs.Wholes.{MayBeWhole}

-- the entries of a list without their outcomes
abbrev pub entries_of : List Listed → List Entry
entries_of list = map (λ (l : Listed). l.entry) list

-- how settling ended, which brought the list to this one
abbrev pub SettledTo : Catalog → ℕ → Database → ℕ → List Item → Result (Unit {0}) Unlisted → Type 0
SettledTo catalog n db limit list (Ok done) = NoneReadyBehind catalog n db list
SettledTo catalog n db limit list (Err NoMemory) = Unit {0}
SettledTo catalog n db limit list (Err (ListFull count)) = (length list ≡ limit) × (count ≡ limit) × SomeReady catalog (after catalog db (listed_of list))

-- a list is one that may be whole for these marks with so many steps behind it, each of which was the next one of settling
pub record SettledFrom (catalog : Catalog) (n : ℕ) (db : Database) (marks : List Known) (ran : ℕ) (list : List Item) : Type 0 where
  pub before : List Item
  pub whole : MayBeWhole catalog n db before marks
  pub steps : List Item
  pub splits : list ≡ before ++ steps
  pub many : length steps ≡ ran
  pub in_order : model.SettlesOn catalog (after catalog db (listed_of before)) (entries_of (listed_of steps))

-- so is each list that may be whole for what these marks have become
abbrev pub SettlesFrom : Catalog → ℕ → Database → List Known → List Known → ℕ → Type 0
SettlesFrom catalog n db old new ran = (list : List Item) → MayBeWhole catalog n db list new → SettledFrom catalog n db old ran list

-- ---- what is said of the whole list, once it is handed over

-- how the engine's own steps ended: with none ready, so that all batches are taken where the opening's database was in step; or with
-- no memory for one; or with no place in the list for one that is ready
abbrev pub EndedWith : Catalog → Database → ℕ → List Listed → Result (Unit {0}) Unlisted → Type 0
EndedWith catalog db limit list (Ok done) = model.NoneReady catalog (after catalog db list) × (IsInStep catalog db → Drained catalog (after catalog db list))
EndedWith catalog db limit list (Err NoMemory) = Unit {0}
EndedWith catalog db limit list (Err (ListFull count)) = (length list ≡ limit) × (count ≡ limit) × SomeReady catalog (after catalog db list)

-- these steps are those by which a database settles, in the model's order, where settling ended so: all of them where none is ready any
-- more, else the first of them
abbrev pub AreSettling : Catalog → Database → List Entry → Result (Unit {0}) Unlisted → Type 0
AreSettling catalog d steps (Ok done) = Settles catalog d steps
AreSettling catalog d steps (Err unlisted) = model.SettlesOn catalog d steps

-- the last entries of a list, so many, are the steps by which the database before them settles
pub record SettledInOrder (catalog : Catalog) (db : Database) (list : List Listed) (ran : ℕ) (end : Result (Unit {0}) Unlisted) : Type 0 where
  pub before : List Listed
  pub steps : List Listed
  pub splits : list ≡ before ++ steps
  pub many : length steps ≡ ran
  pub in_order : AreSettling catalog (after catalog db before) (entries_of steps) end
