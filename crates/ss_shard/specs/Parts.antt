-- Shards that hold the parts of some partitions of a database, of so many that run.
use Rattle.std.specs.Prelude.{◌≡◌, ◌≤◌, ◌<◌, ◌==◌, ℕ, Bool, false, List, [], ◌∷◌, ◌++◌, map, length, replicate, slice_get, Some, None}
use Rattle.std.specs.List.{AllByRecursion, list_any, range_with_len}
use Rattle.std.specs.FinMap as finite
use Rattle.ss_model.specs.declared.catalog.TableDef.{TableDef}
use Rattle.ss_model.specs.declared.catalog.Catalog.{Catalog}
use Rattle.ss_model.specs.Results.{map_indexed}
use Rattle.ss_model.specs.Database.{Database}
use Rattle.ss_model.specs.parts.HeldParts.{elsewhere_blank}
use Rattle.ss_model.specs.Partitions.{window_partition, home_of, home_partition, border_procedure}
use Rattle.ss_table.specs.declared.route.Route.{Route}
use Rattle.ss_table.specs.TableValue.{TableValue}
use Rattle.ss_undo.specs.Windows.{AreCommittedWindows}
use Rattle.ss_shard.specs.Bodies.{texts_of}
use Rattle.ss_shard.specs.Contents.{tables_of}
use Rattle.ss_shard.specs.Databases.{route_at, shell_tables}
use Rattle.ss_shard.specs.Exchanges.{exchanged}
use Rattle.ss_shard.specs.Shards.{HasIndexes, HasWindows, IsCommitted}
use Rattle.ss_shard.specs.ShardValue.{ShardValue}
use Rattle.ss_shard.specs.Sources.{SameNumbers}
use Rattle.ss_shard.specs.Windows.{kept_part, kept_of, HoldsDatabase}

-- whether a partition is one of these
abbrev pub is_among : List ℕ → ℕ → Bool
is_among held p = list_any (λ q. q == p) held

-- all partitions that run
abbrev pub all_partitions : ℕ → List ℕ
all_partitions n = range_with_len 0 n

-- a shard stands for the parts of these partitions of a database, and has blanks for those of others
abbrev pub HoldsParts : Catalog → ℕ → List ℕ → ShardValue → Database → Type 0
HoldsParts catalog n held shard db = HoldsDatabase catalog shard (elsewhere_blank catalog n (is_among held) db)

-- what it has of windows, counts and next numbers
pub record HoldsAtHome (catalog : Catalog) (n : ℕ) (held : List ℕ) (shard : ShardValue) (db : Database) : Type 0 where
  pub windows : map kept_part shard.windows ≡ map_indexed (kept_of catalog) (elsewhere_blank catalog n (is_among held) db).contents.windows
  pub counts : shard.cursors ≡ (elsewhere_blank catalog n (is_among held) db).counts
  pub numbers : SameNumbers (elsewhere_blank catalog n (is_among held) db).next_numbers shard.sources

-- what it has of rows
abbrev pub HoldsRows : Catalog → ℕ → List ℕ → List TableValue → Database → Type 0
HoldsRows catalog n held tables db = tables_of tables ≡ (elsewhere_blank catalog n (is_among held) db).contents.tables

-- which bodies it has: those of the database where some partition that runs is among them
abbrev pub HoldsBodies : Catalog → ℕ → List ℕ → List ℕ → Database → Type 0
HoldsBodies catalog n held bodies db = texts_of catalog bodies ≡ (elsewhere_blank catalog n (is_among held) db).bodies

-- each of these partitions runs
abbrev pub AreRunning : ℕ → List ℕ → Type 0
AreRunning n held = AllByRecursion (λ p. p < n) held

-- how the rows of a table are dealt to parts, and which it has
abbrev pub dealing_of : TableValue → Route × List ℕ
dealing_of h = (h.route, h.parts)

-- the same, as a table's definition has it where so many partitions run and these are held
abbrev pub dealing_for : ℕ → List ℕ → TableDef → Route × List ℕ
dealing_for n held d = (route_at n d.key d.placement, held)

-- the tables of a shard are dealt to the partitions that run, and it has these parts of each
abbrev pub IsDealt : Catalog → ℕ → List ℕ → ShardValue → Type 0
IsDealt catalog n held shard = map dealing_of shard.tables ≡ map (dealing_for n held) catalog.tables

-- a shard of these partitions, which run, between executions
pub record HasParts (catalog : Catalog) (n : ℕ) (held : List ℕ) (shard : ShardValue) : Type 0 where
  pub running : AreRunning n held
  pub committed : IsCommitted catalog shard
  pub dealt : IsDealt catalog n held shard

-- a shard with the windows, counts and next numbers of another where these are at home on a partition
abbrev pub with_homes : Catalog → ℕ → ℕ → ShardValue → ShardValue → ShardValue
with_homes catalog n p shard other = record shard {
  windows = exchanged (λ w. window_partition catalog n w == p) shard.windows other.windows;
  cursors = exchanged (λ q. home_of catalog n q == p) shard.cursors other.cursors;
  sources = exchanged (λ s. home_partition n (border_procedure catalog s) == p) shard.sources other.sources;
}

-- what is left of a shard that lent all that it had: tables without a key and without a row, windows without a unit, no batch
-- taken and no next number; whatever numbers of bodies it has are written over when its part comes back
pub record IsShell (catalog : Catalog) (n : ℕ) (shell : ShardValue) : Type 0 where
  pub tables : shell.tables ≡ shell_tables n shell.number catalog.tables
  pub changes : shell.changes ≡ []
  pub indexes : HasIndexes catalog shell
  pub windows : HasWindows catalog shell.windows
  pub committed : AreCommittedWindows shell.windows
  pub blank : map kept_part shell.windows ≡ map_indexed (kept_of catalog) (map (λ d. []) catalog.windows)
  pub cursors : shell.cursors ≡ replicate (length catalog.procedures) 0
  pub sources : SameNumbers (replicate (length catalog.streams) finite.empty) shell.sources
  pub bodies : length shell.bodies ≡ length catalog.procedures
  pub none_coming : shell.coming ≡ None

-- a shard of these partitions may take in another, of its own partition alone, which is none of them; and there is a database of
-- which each holds its parts
pub record MayAbsorb (catalog : Catalog) (n : ℕ) (held : List ℕ) (shard other : ShardValue) : Type 0 where
  pub own : HasParts catalog n held shard
  pub others : HasParts catalog n (other.number ∷ []) other
  pub fresh : is_among held other.number ≡ false
  pub holds : (db : Database) × HoldsParts catalog n held shard db × HoldsParts catalog n (other.number ∷ []) other db

-- a shard has taken another in, of which a shell is left: it holds the parts of both of each database of which each held its own
pub record HasAbsorbed (catalog : Catalog) (n : ℕ) (held : List ℕ) (old other new shell : ShardValue) : Type 0 where
  pub number : new.number ≡ old.number
  pub parts : HasParts catalog n (held ++ other.number ∷ []) new
  pub holds : (db : Database) → HoldsParts catalog n held old db → HoldsParts catalog n (other.number ∷ []) other db → HoldsParts catalog n (held ++ other.number ∷ []) new db
  pub shell_number : shell.number ≡ other.number
  pub left : IsShell catalog n shell

-- whatever partitions a shard held that could take in another, it has
abbrev pub Absorbs : Catalog → ℕ → ShardValue → ShardValue → ShardValue → ShardValue → Type 0
Absorbs catalog n old other new shell = (held : List ℕ) → MayAbsorb catalog n held old other → HasAbsorbed catalog n held old other new shell

-- a shard of these partitions and of the one of a shell may give the shell its part back
pub record MayRelease (catalog : Catalog) (n : ℕ) (held : List ℕ) (shard shell : ShardValue) : Type 0 where
  pub parts : HasParts catalog n (held ++ shell.number ∷ []) shard
  pub some : 1 ≤ length held
  pub fresh : is_among held shell.number ≡ false
  pub lent : IsShell catalog n shell

-- a shard has given a shell its part back: of each database of which it held both parts, each holds its own
pub record HasReleased (catalog : Catalog) (n : ℕ) (held : List ℕ) (old shell new back : ShardValue) : Type 0 where
  pub number : new.number ≡ old.number
  pub parts : HasParts catalog n held new
  pub holds : (db : Database) → HoldsParts catalog n (held ++ shell.number ∷ []) old db → HoldsParts catalog n held new db
  pub back_number : back.number ≡ shell.number
  pub back_parts : HasParts catalog n (shell.number ∷ []) back
  pub back_holds : (db : Database) → HoldsParts catalog n (held ++ shell.number ∷ []) old db → HoldsParts catalog n (shell.number ∷ []) back db

-- whatever partitions a shard held that could give a shell its part back, it has
abbrev pub Releases : Catalog → ℕ → ShardValue → ShardValue → ShardValue → ShardValue → Type 0
Releases catalog n old shell new back = (held : List ℕ) → MayRelease catalog n held old shell → HasReleased catalog n held old shell new back

-- ---- all shards of a database

-- a shard has the parts of one partition, whose number is its own
pub record IsShardOf (catalog : Catalog) (n p : ℕ) (shard : ShardValue) : Type 0 where
  pub number : shard.number ≡ p
  pub parts : HasParts catalog n (p ∷ []) shard

-- as many shards as partitions run, each at its number
pub record AreShards (catalog : Catalog) (n : ℕ) (shards : List ShardValue) : Type 0 where
  pub count : length shards ≡ n
  pub each : (p : ℕ) (shard : ShardValue) → slice_get shards p ≡ Some shard → IsShardOf catalog n p shard

-- each of them holds its part of a database
abbrev pub HoldTheirParts : Catalog → ℕ → List ShardValue → Database → Type 0
HoldTheirParts catalog n shards db = (p : ℕ) (shard : ShardValue) → slice_get shards p ≡ Some shard → HoldsParts catalog n (p ∷ []) shard db

-- a shard of number 0 that has the parts of all partitions
pub record IsWholeShard (catalog : Catalog) (n : ℕ) (shard : ShardValue) : Type 0 where
  pub number : shard.number ≡ 0
  pub parts : HasParts catalog n (all_partitions n) shard

-- a whole shard was split: each shard holds its part of each database that the whole one stood for
pub record WasSplit (catalog : Catalog) (n : ℕ) (whole : ShardValue) (shards : List ShardValue) : Type 0 where
  pub shards_are : AreShards catalog n shards
  pub holds : (db : Database) → HoldsDatabase catalog whole db → HoldTheirParts catalog n shards db

-- shards were joined: the whole one stands for each database of which each held its part
pub record WereJoined (catalog : Catalog) (n : ℕ) (shards : List ShardValue) (whole : ShardValue) : Type 0 where
  pub whole_is : IsWholeShard catalog n whole
  pub holds : (db : Database) → HoldTheirParts catalog n shards db → HoldsDatabase catalog whole db

-- the shards after a join that found no memory: each holds what it held
pub record AreStill (catalog : Catalog) (n : ℕ) (old new : List ShardValue) : Type 0 where
  pub shards_are : AreShards catalog n new
  pub holds : (db : Database) → HoldTheirParts catalog n old db → HoldTheirParts catalog n new db
