-- What a pump's note then knows.
use Rattle.std.specs.Prelude.{◌≡◌, ℕ, ◌+◌, ◌<◌, ◌≤◌, true, false, List, ◌∷◌, ◌++◌, length, Result, Ok, Err}
use Rattle.ss_model.specs.declared.catalog.Catalog.{Catalog}
use Rattle.ss_model.specs.declared.entry.Entry.{Entry}
use Rattle.ss_model.specs.Database.{Database}
use Rattle.ss_model.specs.Partitions.{touches}
use Rattle.ss_commitlog.specs.declared.placed.Placed.{Placed}
use Rattle.ss_commitlog.specs.declared.placed.Unlisted.{Unlisted}
use Rattle.ss_commitlog.specs.declared.placed.Unlisted.TheVariants.{NoMemory, ListFull}
use Rattle.ss_commitlog.specs.declared.rule.Item.{Item}
use Rattle.ss_commitlog.specs.Right.{known_database}
use Rattle.ss_commitlog.specs.Tokens.{Known}
use Rattle.ss_engine.specs.declared.partition.pumped.Pumped.{Pumped}
use Rattle.ss_engine.specs.declared.partition.pumped.Pumped.TheVariants as pumped
use Rattle.ss_commitlog.specs.Growing.{GoesOn}
use Rattle.ss_settle.specs.Ready.{NoneReady}

-- the least partition that an entry touches
abbrev pub IsLeastOf : Catalog → ℕ → Entry → ℕ → Type 0
IsLeastOf catalog parts e p = (touches catalog parts e p ≡ true) × ((q : ℕ) → q < p → touches catalog parts e q ≡ false)

-- at a place of a list that begins at a place stands an entry whose least partition is p
abbrev pub StandsAt : Catalog → ℕ → ℕ → List Item → ℕ → ℕ → Type 0
StandsAt catalog parts first list place p =
    (before : List Item) × (i : Item) × (rest : List Item) × (list ≡ before ++ i ∷ rest) × (place ≡ first + length before)
    × IsLeastOf catalog parts i.listed.entry p

-- what one call of a pump says of the list that the note then knows
abbrev pub AfterPump : Catalog → ℕ → Database → ℕ → ℕ → ℕ → Known → Known → Pumped → Type 0
AfterPump catalog parts db first limit p old new (pumped.Ran place) = StandsAt catalog parts first new.list place p × (first + length old.list ≤ place)
AfterPump catalog parts db first limit p old new pumped.Idle = NoneReady catalog parts (known_database catalog db new) p
AfterPump catalog parts db first limit p old new (pumped.Unlisted NoMemory) = Unit {0}
AfterPump catalog parts db first limit p old new (pumped.Unlisted (ListFull count)) = (length new.list ≡ limit) × (count ≡ limit)

-- the lent note then knows a list that goes on from its old one; and of that list the answer is right
pub record IsPumped (catalog : Catalog) (parts : ℕ) (db : Database) (first limit p : ℕ) (old new : Known) (did : Pumped) : Type 0 where
  pub on : GoesOn catalog parts old new
  pub did_is : AfterPump catalog parts db first limit p old new did

-- what a pump says of a job that ran
abbrev pub pumped_of : Result Placed Unlisted → Pumped
pumped_of (Ok placed) = pumped.Ran placed.place
pumped_of (Err why) = pumped.Unlisted why
