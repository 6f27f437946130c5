-- What a weak store is read as, and what it stands for.
use Rattle.std.specs.Prelude.{◌≡◌, ◌⊎◌, ℕ, ◌+◌, List, [], length}
use Rattle.ss_model.specs.declared.catalog.Catalog.{Catalog}
use Rattle.ss_model.specs.declared.entry.Entry.{Entry}
use Rattle.ss_model.specs.declared.entry.Listed.{Listed}
use Rattle.ss_model.specs.declared.entry.Mode.TheVariants.{Weak}
use Rattle.ss_model.specs.Database.{Database, empty_database}
use Rattle.ss_model.specs.Replays.{Replays, after}
use Rattle.ss_model.specs.Settling.{Kept, kept, IsWeakList}
use Rattle.ss_model.specs.WholeDatabase.{WholeDatabase}
use Rattle.ss_disk.specs.Files.{Files}
use Rattle.ss_cmdlog.specs.Generation.{Stood}
use Rattle.ss_cmdlog.specs.Store.{IsEmpty, StandsFor, entries_of}
use Rattle.ss_model.specs.Asked.{listed_entries}
use Rattle.ss_standing.specs.Standing.{IsImageAt}

-- a weak generation, with bodies or without, is read as this database, at this place, with these entries behind its image
pub record IsReadAs (catalog : Catalog) (s : Stood) (place : ℕ) (db : Database) (entries : List Entry) : Type 0 where
  pub weak : s.mode ≡ Weak
  pub first : s.first ≡ place
  pub image : IsImageAt catalog s.bodies place s.image db
  pub entries_are : entries_of s ≡ entries

-- an empty disk is read as the empty database, at place 0, with no entries
pub record IsReadAsEmpty (catalog : Catalog) (image : Files) (place : ℕ) (db : Database) (entries : List Entry) : Type 0 where
  pub empty : IsEmpty image
  pub none : place ≡ 0
  pub whole : WholeDatabase catalog db
  pub nothing : kept catalog db ≡ kept catalog (empty_database catalog)
  pub no_entries : entries ≡ []

-- the current generation is read so
pub record ReadsGeneration (catalog : Catalog) (image : Files) (place : ℕ) (db : Database) (entries : List Entry) : Type 0 where
  pub stood : Stood
  pub stands : StandsFor image stood
  pub read : IsReadAs catalog stood place db entries

-- the files are read so
abbrev pub WeakReads : Catalog → Files → ℕ → Database → List Entry → Type 0
WeakReads catalog image place db entries = IsReadAsEmpty catalog image place db entries ⊎ ReadsGeneration catalog image place db entries

-- What is recovered of files: they are read so, and the weak list of the entries, which replays, leads to so many executions and to
-- what is kept after them.
pub record WeaklyStands (catalog : Catalog) (image : Files) (count : ℕ) (k : Kept) : Type 0 where
  pub place : ℕ
  pub db : Database
  pub entries : List Entry
  pub reads : WeakReads catalog image place db entries
  pub list : List Listed
  pub is_weak : IsWeakList catalog db entries (listed_entries list)
  pub replays : Replays catalog db list
  pub count_is : count ≡ place + length list
  pub kept_is : k ≡ kept catalog (after catalog db list)
