-- The database that is read of an image.
use Rattle.std.specs.Prelude.{◌≡◌, ◌<◌, ◌^◌, ◌++◌, ℕ, Bool, List, length}
use Rattle.ss_model.specs.declared.catalog.Catalog.{Catalog}
use Rattle.ss_model.specs.Accepted.{Accepted}
use Rattle.ss_model.specs.Database.{Database as Model}
use Rattle.ss_model.specs.Settling.{Kept, kept}
use Rattle.ss_model.specs.WholeDatabase.{HadAtMost, WholeDatabase}
use Rattle.ss_shard.specs.declared.database.Database.{Database}
use Rattle.ss_shard.specs.Contents.{tables_of}
use Rattle.ss_shard.specs.Databases.{StandsFor}
use Rattle.ss_shard.specs.ShardValue.{ShardValue}
use Rattle.ss_record.specs.Numbers.{IsBytes}
use Rattle.ss_standing.specs.Checkpoints.{IsReadAs}
use Rattle.ss_standing.specs.Image.{text_bytes}
use Rattle.ss_snapshot.specs.Beside.{BesideTables, to_kept}
use Rattle.ss_snapshot.specs.Own.{IsReadFromItsText}

-- the tables of a shard, what is beside them and the texts of bodies are kept of a whole database that had at most 2^60 executions
pub record IsKeptBeside (catalog : Catalog) (shard : ShardValue) (beside : BesideTables) (texts : List (List ℕ)) (d : Model) : Type 0 where
  pub whole : WholeDatabase catalog d
  pub had : HadAtMost (2 ^ 60) d
  pub is : to_kept (tables_of shard.tables) beside texts ≡ kept catalog d

-- to their end the bytes are read as what is kept of some database, and this one of the program stands for each such one
pub record IsReadDatabase (bodies : Bool) (catalog : Catalog) (first : ℕ) (bytes : List ℕ) (database : Database) : Type 0 where
  pub what : Kept
  pub read : IsReadAs bodies catalog first bytes what
  pub stands : (d : Model) → WholeDatabase catalog d → HadAtMost first d → what ≡ kept catalog d → StandsFor catalog database d

-- a catalogue that is read from the text in front of the bytes, and a database from those behind it
pub record IsReadBehindText (bodies : Bool) (bytes : List ℕ) (first : ℕ) (read : Catalog × Database) : Type 0 where
  pub own : IsReadFromItsText read.0
  pub accepted : Accepted read.0
  pub short : length read.0.text < 2 ^ 32
  pub rest : List ℕ
  pub are : IsBytes rest
  pub begins : bytes ≡ text_bytes read.0.text ++ rest
  pub database : IsReadDatabase bodies read.0 first rest read.1
