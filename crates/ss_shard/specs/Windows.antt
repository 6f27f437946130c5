-- One unit more in a window of the model, and what a shard stands for.
use Rattle.std.specs.Prelude.{◌≡◌, ℕ, suc, ◌^◌, ◌==◌, nat_le, not, Bool, drop, length, map, Ok}
use Rattle.ss_value.specs.Rows.{Rows}
use Rattle.ss_model.specs.declared.catalog.Catalog.{Catalog}
use Rattle.ss_model.specs.declared.entry.Reason.TheVariants.{WindowFull}
use Rattle.ss_model.specs.Results.{OrAbort, abort_when, map_indexed}
use Rattle.ss_model.specs.Contents.{Window, Contents, window_units, window_def, append_unit, visible_end, kept_units}
use Rattle.ss_model.specs.Database.{Database}
use Rattle.ss_window.specs.WindowValue.{WindowValue, unit_count, outdated_count}
use Rattle.ss_shard.specs.ShardValue.{ShardValue}
use Rattle.ss_shard.specs.Bodies.{texts_of}
use Rattle.ss_shard.specs.Sources.{SameNumbers}
use Rattle.ss_shard.specs.Contents.{tables_of, contents_of}

-- whether one unit more moves the end of what a window shows
abbrev pub unit_moves_end : Catalog → ℕ → Contents → Bool
unit_moves_end catalog n s =
    not (visible_end (window_def catalog n) (length (window_units s n)) == visible_end (window_def catalog n) (suc (length (window_units s n))))

-- one unit more in a window, and whether the end of what it shows has moved; an abort where the window has had 2^62 units
abbrev pub unit_added : Catalog → ℕ → Rows → Contents → OrAbort (Bool × Contents)
unit_added catalog n unit s = abort_when (nat_le (2 ^ 62) (length (window_units s n))) (WindowFull n) (Ok (unit_moves_end catalog n s, append_unit s n unit))

-- of a window: how many units it has ever had, and those that may still be seen
abbrev pub kept_part : WindowValue → ℕ × Window
kept_part h = (unit_count h, drop (outdated_count h) h.kept)

-- the same of a window of the model, which lists all its units
abbrev pub kept_of : Catalog → ℕ → Window → ℕ × Window
kept_of catalog w us = (length us, kept_units (window_def catalog w) us)

-- a shard stands for these tables and windows: the same rows by key, and of each window the same number of units and the
-- same ones that may still be seen
pub record Holds (catalog : Catalog) (shard : ShardValue) (s : Contents) : Type 0 where
  pub tables : tables_of shard.tables ≡ s.tables
  pub windows : map kept_part shard.windows ≡ map_indexed (kept_of catalog) s.windows

-- a shard stands for a database: for its tables and windows, and it has the same count of batches and the same body for each
-- procedure, and the same next number for each source
pub record HoldsDatabase (catalog : Catalog) (shard : ShardValue) (db : Database) : Type 0 where
  pub contents : Holds catalog shard db.contents
  pub counts : shard.cursors ≡ db.counts
  pub numbers : SameNumbers db.next_numbers shard.sources
  pub bodies : texts_of catalog shard.bodies ≡ db.bodies

-- a database with its contents replaced by those of the shard
abbrev pub own_database : ShardValue → Database → Database
own_database shard db = record db { contents = contents_of shard }
