-- Lists of shards of which the first are joined into one.
use Rattle.std.specs.Prelude.{◌≡◌, ◌≤◌, ◌<◌, ℕ, List, [], ◌∷◌, length, slice_get, Some}
use Rattle.ss_model.specs.declared.catalog.Catalog.{Catalog}
use Rattle.ss_model.specs.Database.{Database}
use Rattle.ss_shard.specs.Parts.{all_partitions, HasParts, HoldsParts, IsShell, IsShardOf}
use Rattle.ss_shard.specs.ShardValue.{ShardValue}

-- a shell was left by the shard of one partition, whose number is its own
pub record IsShellOf (catalog : Catalog) (n p : ℕ) (shell : ShardValue) : Type 0 where
  pub number : shell.number ≡ p
  pub is_shell : IsShell catalog n shell

-- as many shells as partitions run, each at its number
pub record AreNumberedShells (catalog : Catalog) (n : ℕ) (shells : List ShardValue) : Type 0 where
  pub count : length shells ≡ n
  pub each : (p : ℕ) (shell : ShardValue) → slice_get shells p ≡ Some shell → IsShellOf catalog n p shell

-- a shard of number 0 has the parts of the first partitions, of whose shards the list has the shells left; the others still have
-- their parts
pub record ArePartlyJoined (catalog : Catalog) (n held : ℕ) (whole : ShardValue) (shards : List ShardValue) : Type 0 where
  pub number : whole.number ≡ 0
  pub parts : HasParts catalog n (all_partitions held) whole
  pub count : length shards ≡ n
  pub shells : (p : ℕ) (shell : ShardValue) → slice_get shards p ≡ Some shell → p < held → IsShellOf catalog n p shell
  pub others : (p : ℕ) (shard : ShardValue) → slice_get shards p ≡ Some shard → held ≤ p → IsShardOf catalog n p shard

-- and they hold these parts of a database
pub record HoldPartlyJoined (catalog : Catalog) (n held : ℕ) (whole : ShardValue) (shards : List ShardValue) (db : Database) : Type 0 where
  pub first : HoldsParts catalog n (all_partitions held) whole db
  pub others : (p : ℕ) (shard : ShardValue) → slice_get shards p ≡ Some shard → held ≤ p → HoldsParts catalog n (p ∷ []) shard db

-- whatever they held of a database where so many were joined, they hold where so many are joined now
abbrev pub HoldStill : Catalog → ℕ → ℕ → ShardValue → List ShardValue → ℕ → ShardValue → List ShardValue → Type 0
HoldStill catalog n before old_whole old_shards held whole shards =
    (db : Database) → HoldPartlyJoined catalog n before old_whole old_shards db → HoldPartlyJoined catalog n held whole shards db
