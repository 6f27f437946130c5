-- The streams of a database: of the list of all batches of each, what has to be kept.
use Rattle.std.specs.Prelude.{◌≡◌, ℕ, List, map, length}
use Rattle.std.specs.List.{filter, range_with_len}
use Rattle.ss_model.specs.declared.catalog.Catalog.{Catalog}
use Rattle.ss_model.specs.Database.{Database, batch_count, stream_batches}
use Rattle.ss_model.specs.Orders.{procedure_takes}
use Rattle.ss_model.specs.Settling.{procedure_numbers}
use Rattle.ss_stream.specs.declared.cursor.Cursor.{Cursor}
use Rattle.ss_stream.specs.Pending.{Pending, cursor_at, pending_from}

-- the procedures that take a stream
abbrev pub consumers_of : Catalog → ℕ → List ℕ
consumers_of catalog s = filter (λ q. procedure_takes catalog q s) (procedure_numbers catalog)

-- the cursors of the procedures that take a stream, each at the count of batches that its procedure has taken
abbrev pub consumer_cursors : Catalog → Database → ℕ → List Cursor
consumer_cursors catalog db s = map (λ q. cursor_at (batch_count db q) q) (consumers_of catalog s)

-- of all batches of a stream, those that some consumer has still to take
abbrev pub kept_stream : Catalog → Database → ℕ → Pending
kept_stream catalog db s = pending_from 0 (stream_batches db s) (consumer_cursors catalog db s)

-- what is kept of each stream of the catalogue
abbrev pub kept_streams : Catalog → Database → List Pending
kept_streams catalog db = map (kept_stream catalog db) (range_with_len 0 (length catalog.streams))

-- these are the streams of the database
abbrev pub AreStreamsOf : Catalog → Database → List Pending → Type 0
AreStreamsOf catalog db streams = streams ≡ kept_streams catalog db
