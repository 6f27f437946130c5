-- Tables of an image, put into those of a shard.
use Rattle.std.specs.Prelude.{◌≡◌, ◌∷◌, [], ℕ, map, set, Ok, IsOk}
use Rattle.std.specs.List.{AllByRecursion}
use Rattle.std.specs.FinMap as finmap
use Rattle.ss_value.specs.Rows.{Rows, column_values}
use Rattle.ss_model.specs.declared.catalog.Catalog.{Catalog}
use Rattle.ss_model.specs.declared.catalog.TableDef.{TableDef}
use Rattle.ss_model.specs.Contents.{Contents, Table, table_at}
use Rattle.ss_model.specs.Results.{try_fold}
use Rattle.ss_model.specs.Statements.{insert_row}
use Rattle.ss_shard.specs.Contents.{contents_of, tables_of}
use Rattle.ss_shard.specs.Parts.{dealing_of}
use Rattle.ss_shard.specs.Rows.{IsKeyed}
use Rattle.ss_shard.specs.Shards.{IsCommitted}
use Rattle.ss_shard.specs.ShardValue.{ShardValue}

-- a table with these rows too, each at its key
abbrev pub put_rows : TableDef → Table → Rows → Table
put_rows d m [] = m
put_rows d m (row ∷ rows) = put_rows d (finmap.insert m (column_values d.key row) row) rows

-- rows were put in and made final: the shard is between executions again, of the same number and with its rows dealt as before
pub record Settles (catalog : Catalog) (old new : ShardValue) : Type 0 where
  pub committed : IsCommitted catalog new
  pub number : new.number ≡ old.number
  pub dealt : map dealing_of new.tables ≡ map dealing_of old.tables

-- rows may be put into a table of a shard between executions: each has the table's key, none stands there yet, and there is room
pub record MayPut (catalog : Catalog) (shard : ShardValue) (t : ℕ) (rows : Rows) : Type 0 where
  pub committed : IsCommitted catalog shard
  pub keyed : AllByRecursion (IsKeyed shard.tables t) rows
  pub free : IsOk (try_fold (insert_row catalog t) rows (contents_of shard))

-- they were put in, as the model does it, and made final
pub record WerePut (catalog : Catalog) (old new : ShardValue) (t : ℕ) (rows : Rows) : Type 0 where
  pub settles : Settles catalog old new
  pub tables : (s : Contents) → try_fold (insert_row catalog t) rows (contents_of old) ≡ Ok s → tables_of new.tables ≡ s.tables

-- a table of a shard
abbrev pub table_in : ShardValue → ℕ → Table
table_in shard t = table_at (contents_of shard) t

-- one table of a shard was filled, and nothing else of its tables changed
pub record OneFilled (catalog : Catalog) (old new : ShardValue) (t : ℕ) : Type 0 where
  pub settles : Settles catalog old new
  pub others : tables_of new.tables ≡ set (tables_of old.tables) t (table_in new t)
