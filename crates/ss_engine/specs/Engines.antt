-- What an engine is made for.
use Rattle.std.specs.Prelude.{◌≡◌, ◌≤◌, ◌+◌, ◌^◌, ℕ, List, Option, Some}
use Rattle.atomic_table.specs.Seated.{TableId}
use Rattle.ss_model.specs.declared.catalog.Catalog.{Catalog}
use Rattle.ss_model.specs.Accepted.{Accepted}
use Rattle.ss_model.specs.Database.{Database}
use Rattle.ss_model.specs.WholeDatabase.{WholeDatabase, HadAtMost}
use Rattle.ss_partition.specs.Homes.{homes_of}
use Rattle.ss_party.specs.Turns.{bay_count}

-- each list that begins at this database and this place leaves one that has an image; and where checkpoints are asked for, some entries
-- may stand behind one
pub record AllowsCheckpoints (catalog : Catalog) (db : Database) (first : ℕ) (every : Option ℕ) : Type 0 where
  pub whole : WholeDatabase catalog db
  pub had : HadAtMost first db
  pub some : (k : ℕ) → every ≡ Some k → 1 ≤ k

-- its catalogue is the accepted one, with the home of each procedure, it has a bay for each partition that runs, and all places
-- of its list are small numbers
pub record IsEngine (of : Catalog) (n first limit : ℕ) (db : Database) (every : Option ℕ) (catalog : Catalog) (homes : List ℕ) (parts : ℕ) (bays : TableId) : Type 0 where
  pub accepted : Accepted of
  pub small : first + limit ≤ 2 ^ 60
  pub catalog_is : catalog ≡ of
  pub parts_are : parts ≡ n
  pub some : 1 ≤ n
  pub few : n ≤ 8
  pub homes_are : homes ≡ homes_of of n
  pub bays_are : bay_count bays ≡ n
  pub checkpoints : AllowsCheckpoints of db first every
