-- What an image has beside the tables, as the program has it.
use Rattle.std.specs.Prelude.{ℕ, List, length, map}
use Rattle.std.specs.List.{range_with_len}
use Rattle.ss_value.specs.Rows.{Rows}
use Rattle.ss_model.specs.declared.catalog.Catalog.{Catalog}
use Rattle.ss_model.specs.Contents.{Table, Window}
use Rattle.ss_model.specs.Database.{NextNumbers}
use Rattle.ss_model.specs.Settling.{Kept}
use Rattle.ss_shard.specs.ShardValue.{ShardValue}
use Rattle.ss_shard.specs.Sources.{positive}
use Rattle.ss_shard.specs.Windows.{kept_part}
use Rattle.ss_standing.specs.ImageForm.{counts_of, sources_at, stream_at, table_of, window_of}
use Rattle.ss_standing.specs.Readers.{Reader, each, followed}
use Rattle.ss_snapshot.specs.declared.reading.image.Beside.{Beside}
use Rattle.ss_snapshot.specs.declared.reading.image.Progress.{Progress}
use Rattle.ss_snapshot.specs.Streams.{as_kept}

-- streams, counts and next numbers
abbrev pub Progressed : Type 0
Progressed = List (ℕ × (ℕ × List Rows)) × (List ℕ × List NextNumbers)

-- the windows, and these
abbrev pub BesideTables : Type 0
BesideTables = List (ℕ × Window) × Progressed

-- the counts of the procedures, and the next numbers
abbrev pub counts_and_sources_of : Catalog → List (ℕ × (ℕ × List Rows)) → Reader (List ℕ × List NextNumbers)
counts_and_sources_of catalog streams = followed (counts_of catalog streams) (λ counts. each (sources_at catalog) (range_with_len 0 (length catalog.streams)))

-- the streams, of which none has had more batches than so many and an inner one none, and what is behind them
abbrev pub progress_of : Catalog → ℕ → Reader Progressed
progress_of catalog most = followed (each (stream_at catalog most) (range_with_len 0 (length catalog.streams))) (λ streams. counts_and_sources_of catalog streams)

-- the windows, and what is behind them
abbrev pub beside_of : Catalog → ℕ → Reader BesideTables
beside_of catalog most = followed (each window_of catalog.windows) (λ windows. progress_of catalog most)

abbrev pub as_progress : Progress → Progressed
as_progress p = (map as_kept p.streams, (p.counts, map positive p.sources))

abbrev pub as_beside : Beside → BesideTables
as_beside b = (map kept_part b.windows, as_progress b.progress)

-- the tables too, which is all but the bodies
abbrev pub but_bodies_of : Catalog → ℕ → Reader (List Table × BesideTables)
but_bodies_of catalog most = followed (each table_of catalog.tables) (λ tables. beside_of catalog most)

-- all of it
abbrev pub to_kept : List Table → BesideTables → List (List ℕ) → Kept
to_kept tables b texts = record { tables = tables; windows = b.0; streams = b.1.0; counts = b.1.1.0; next_numbers = b.1.1.1; bodies = texts }

-- a shard with its own tables and these windows, counts, sources and numbers of bodies
abbrev pub with_beside : ShardValue → Beside → List ℕ → ShardValue
with_beside shard b numbers = record shard { windows = b.windows; cursors = b.progress.counts; sources = b.progress.sources; bodies = numbers }
