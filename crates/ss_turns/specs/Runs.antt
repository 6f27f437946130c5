-- A shard with parts of a database on which an entry runs: while the run waits for its end, and behind it.
use Rattle.std.specs.Prelude.{◌≡◌, ℕ, List, Some, Ok, Err}
use Rattle.std.specs.declared.result.Result.{Result}
use Rattle.ss_value.specs.Rows.{Rows}
use Rattle.ss_model.specs.declared.catalog.Catalog.{Catalog}
use Rattle.ss_model.specs.declared.entry.Emitted.{Emitted}
use Rattle.ss_model.specs.declared.entry.Entry.{Entry}
use Rattle.ss_model.specs.declared.entry.Listed.{Listed}
use Rattle.ss_model.specs.Database.{Database, Applied, apply}
use Rattle.ss_model.specs.parts.HeldParts.{HoldsTouched}
use Rattle.ss_model.specs.parts.Locality.{SameInputs}
use Rattle.ss_proc.specs.Entries.{AreAtHand, EntryHasSource, IsCountable}
use Rattle.ss_proc.specs.Parts.{RanOnParts}
use Rattle.ss_commitlog.specs.declared.placed.Placed.{Placed}
use Rattle.ss_commitlog.specs.declared.placed.Unlisted.{Unlisted}
use Rattle.ss_commitlog.specs.Right.{HasInputs, IsKnownTo}
use Rattle.ss_commitlog.specs.Tokens.{Known}
use Rattle.ss_shard.specs.Parts.{is_among, HasParts, HoldsParts}
use Rattle.ss_shard.specs.Shards.{CanRollBack, IsCommitted, IsOf}
use Rattle.ss_shard.specs.ShardValue.{ShardValue}

-- these are the batches that an entry takes, on each database that has the same inputs for it as one that some mark knows
pub record AreGiven (catalog : Catalog) (db : Database) (ks : List Known) (e : Entry) (batches : List Rows) : Type 0 where
  pub source : Database
  pub known : IsKnownTo catalog db ks e source
  pub inputs : HasInputs catalog e source
  pub at_hand : (d : Database) → SameInputs catalog e d source → AreAtHand catalog d e batches

-- the shard has the parts that it had, of each database of which it had them
pub record HasStayed (catalog : Catalog) (n : ℕ) (old new : ShardValue) : Type 0 where
  pub number : new.number ≡ old.number
  pub parts : (held : List ℕ) → HasParts catalog n held old → HasParts catalog n held new
  pub holds : (held : List ℕ) (db : Database) → HoldsParts catalog n held old db → HoldsParts catalog n held new db

-- an entry with these batches has run on a shard between executions, with this outcome, on each database of which it had the parts
-- that the entry touches; the run waits for a commit or a rollback
pub record HasRun (catalog : Catalog) (n : ℕ) (old now : ShardValue) (l : Listed) (batches : List Rows) (emitted : List Emitted) : Type 0 where
  pub committed : IsCommitted catalog old
  pub back : CanRollBack old now
  pub of_catalog : IsOf catalog now
  pub countable : IsCountable l.entry
  pub sourced : EntryHasSource l.entry l.outcome now.sources
  pub ran : (held : List ℕ) → RanOnParts catalog n held old now l.entry batches (record { outcome = l.outcome; emitted = emitted })

-- an entry's value on a database, of which the shard then has the parts of these partitions
pub record HoldsAfter (catalog : Catalog) (n : ℕ) (held : List ℕ) (new : ShardValue) (db : Database) (e : Entry) : Type 0 where
  pub applied : Applied
  pub value : apply catalog db e ≡ Some applied
  pub holds : HoldsParts catalog n held new applied.db

-- the run was committed: the shard has the parts that it had, as the entry leaves them
pub record HasCommitted (catalog : Catalog) (n : ℕ) (old new : ShardValue) (e : Entry) (batches : List Rows) : Type 0 where
  pub number : new.number ≡ old.number
  pub parts : (held : List ℕ) → HasParts catalog n held old → HasParts catalog n held new
  pub holds : (held : List ℕ) → HoldsTouched catalog n (is_among held) e → (db : Database) → HoldsParts catalog n held old db → AreAtHand catalog db e batches → HoldsAfter catalog n held new db e

-- what has a place, if anything has, is this
abbrev pub SaysOnly : Listed → Result Placed Unlisted → Type 0
SaysOnly l (Ok placed) = placed.listed ≡ l
SaysOnly l (Err unlisted) = Unit {0}

-- some run that waits for its end, of which this is said
abbrev pub MayEnd : ShardValue → Result Placed Unlisted → Type 0
MayEnd now said =
    (catalog : Catalog) × (n : ℕ) × (old : ShardValue) × (l : Listed) × (batches : List Rows) × (emitted : List Emitted) × HasRun catalog n old now l batches emitted × SaysOnly l said

-- what has a place was committed, and all else was rolled back
abbrev pub EndedAsSaid : Catalog → ℕ → ShardValue → ShardValue → Entry → List Rows → Result Placed Unlisted → Type 0
EndedAsSaid catalog n old new e batches (Ok placed) = HasCommitted catalog n old new e batches
EndedAsSaid catalog n old new e batches (Err unlisted) = HasStayed catalog n old new

-- so each run that waited has ended
abbrev pub HasEnded : ShardValue → ShardValue → Result Placed Unlisted → Type 0
HasEnded now new said =
    (catalog : Catalog) (n : ℕ) (old : ShardValue) (l : Listed) (batches : List Rows) (emitted : List Emitted) →
    HasRun catalog n old now l batches emitted → SaysOnly l said → EndedAsSaid catalog n old new l.entry batches said
