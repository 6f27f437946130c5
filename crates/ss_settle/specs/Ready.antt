-- Which procedures are ready, and which of them settling runs next.
use Rattle.std.specs.Prelude.{◌≡◌, ◌<◌, ℕ, true, List, Some}
use Rattle.ss_model.specs.declared.catalog.Catalog.{Catalog}
use Rattle.ss_model.specs.declared.entry.Entry.TheVariants.{Step as StepEntry}
use Rattle.ss_model.specs.Database.{Database, fits_entry}
use Rattle.ss_model.specs.Replays.{after}
use Rattle.ss_model.specs.Settling.{is_ready_now, next_settled}
use Rattle.ss_commitlog.specs.declared.rule.Item.{Item}
use Rattle.ss_commitlog.specs.Meaning.{listed_of}
use Rattle.ss_commitlog.specs.Reading.{IsReadyAt}
use Rattle.ss_commitlog.specs.Right.{known_database}
use Rattle.ss_commitlog.specs.Tokens.{Known}
use Rattle.ss_commitlog.specs.Growing.{GoesOn}
use Rattle.ss_settle.specs.Ranking.{StandsBefore}
use Rattle.ss_settle.specs.Wholes.{MayBeWhole}

-- no procedure at home on partition p is ready
abbrev pub NoneReady : Catalog → ℕ → Database → ℕ → Type 0
NoneReady catalog parts d p = (q : ℕ) → IsReadyAt catalog parts d p q → ⊥

-- no procedure is ready behind a list, whatever its home is
abbrev pub NoneReadyBehind : Catalog → ℕ → Database → List Item → Type 0
NoneReadyBehind catalog n db list = (p : ℕ) → p < n → NoneReady catalog n (after catalog db (listed_of list)) p

-- some procedure is ready
abbrev pub SomeReady : Catalog → Database → Type 0
SomeReady catalog d = (q : ℕ) × (is_ready_now catalog d q ≡ true)

-- ---- looks, partition by partition

-- while a token went from one list to another, there was one behind which no procedure at home on a partition was ready
pub record WasIdle (catalog : Catalog) (n : ℕ) (db : Database) (p : ℕ) (old new : Known) : Type 0 where
  pub between : Known
  pub since : GoesOn catalog n old between
  pub till : GoesOn catalog n between new
  pub idle : NoneReady catalog n (known_database catalog db between) p

-- a procedure takes steps; and while a token went from one list to another, there was one behind which it was ready
pub record StepsWhenFound (catalog : Catalog) (n : ℕ) (db : Database) (old new : Known) (q : ℕ) : Type 0 where
  pub fits : fits_entry catalog (StepEntry q 0) ≡ true
  pub between : Known
  pub since : GoesOn catalog n old between
  pub till : GoesOn catalog n between new
  pub ready : is_ready_now catalog (known_database catalog db between) q ≡ true

-- while a token went from one list to another, there was one behind which no procedure that was ready at home on a partition stood
-- before this one in the order of settling
pub record WasFirst (catalog : Catalog) (n : ℕ) (db : Database) (ranks : List ℕ) (p : ℕ) (old new : Known) (q : ℕ) : Type 0 where
  pub between : Known
  pub since : GoesOn catalog n old between
  pub till : GoesOn catalog n between new
  pub first : (r : ℕ) → IsReadyAt catalog n (known_database catalog db between) p r → StandsBefore ranks q r

-- a procedure takes steps, and is the next one of settling behind the list that all of these marks may know
pub record FoundNext (catalog : Catalog) (n : ℕ) (db : Database) (marks : List Known) (q : ℕ) : Type 0 where
  pub fits : fits_entry catalog (StepEntry q 0) ≡ true
  pub next : (list : List Item) → MayBeWhole catalog n db list marks → next_settled catalog (after catalog db (listed_of list)) ≡ Some q
