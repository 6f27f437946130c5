-- A shard stands for each database that has what it has.
use Rattle.std.specs.Prelude.{◌≡◌, Some}
use Rattle.ss_model.specs.declared.catalog.Catalog.{Catalog}
use Rattle.ss_model.specs.declared.entry.Entry.{Entry}
use Rattle.ss_model.specs.Database.{Database, Applied, apply}
use Rattle.ss_shard.specs.ShardValue.{ShardValue}
use Rattle.ss_shard.specs.Contents.{contents_of}
use Rattle.ss_shard.specs.Shards.{IsOf}
use Rattle.ss_shard.specs.Windows.{Holds, HoldsDatabase, own_database}

-- law: a shard stands for its own tables and windows
abbrev pub HoldsItself : Type 0
HoldsItself = (catalog : Catalog) (shard : ShardValue) → IsOf catalog shard → Holds catalog shard (contents_of shard)

-- an entry has a value on a database, with the outcome, batches, counts, next numbers and bodies of `a`, and a shard stands for the
-- tables and windows that it leaves
pub record Carried (catalog : Catalog) (db : Database) (e : Entry) (shard : ShardValue) (a : Applied) : Type 0 where
  pub applied : Applied
  pub value : apply catalog db e ≡ Some applied
  pub outcome : a.outcome ≡ applied.outcome
  pub emitted : a.emitted ≡ applied.emitted
  pub leaves : Holds catalog shard (applied.db).contents
  pub counts : (applied.db).counts ≡ (a.db).counts
  pub numbers : (applied.db).next_numbers ≡ (a.db).next_numbers
  pub bodies : (applied.db).bodies ≡ (a.db).bodies

-- law: what an entry comes to on the shard's own database, it comes to on each database that the shard stands for
abbrev pub CarriedToEach : Type 0
CarriedToEach =
    (catalog : Catalog) (old new : ShardValue) → IsOf catalog old → IsOf catalog new → (db : Database) → HoldsDatabase catalog old db →
    (e : Entry) (a : Applied) → apply catalog (own_database old db) e ≡ Some a → (a.db).contents ≡ contents_of new → Carried catalog db e new a
