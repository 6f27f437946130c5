-- The batches that an entry takes from streams, and what has run on them.
use Rattle.std.specs.Prelude.{◌≡◌, ◌<◌, ℕ, true, List, [], map, length, slice_get, unwrap_or, IsSome}
use Rattle.std.specs.List.{AllByRecursion}
use Rattle.std.specs.Option.{option_map}
use Rattle.ss_value.specs.Rows.{Rows}
use Rattle.ss_model.specs.declared.catalog.Catalog.{Catalog}
use Rattle.ss_model.specs.declared.entry.Entry.{Entry}
use Rattle.ss_model.specs.declared.entry.Entry.TheVariants.{Step as StepEntry}
use Rattle.ss_model.specs.Database.{Database, is_ready_entry}
use Rattle.ss_stream.specs.Pending.{Pending, pending_batch}
use Rattle.ss_stream.specs.Streams.{ReservedStreams, stream_at}
use Rattle.ss_stream.specs.OfDatabase.{AreStreamsOf}
use Rattle.ss_shard.specs.ShardValue.{ShardValue}
use Rattle.ss_shard.specs.Windows.{HoldsDatabase}
use Rattle.ss_proc.specs.declared.runner.Executed.{Executed}
use Rattle.ss_proc.specs.Entries.{Ran}

-- a stream has a batch with this number, which some consumer has still to take
abbrev pub HasBatch : ReservedStreams → ℕ → ℕ → Type 0
HasBatch streams r s = (s < length streams.streams) × IsSome (pending_batch (stream_at streams s) r)

-- that batch, and no row where there is none
abbrev pub batch_at : ReservedStreams → ℕ → ℕ → Rows
batch_at streams r s = unwrap_or (pending_batch (stream_at streams s) r) []

-- the streams that an entry takes batches from: of a step the inputs of its procedure, else none
abbrev pub entry_inputs : Catalog → Entry → List ℕ
entry_inputs catalog (StepEntry q r) = unwrap_or (option_map (λ p. p.inputs) (slice_get catalog.procedures q)) []
entry_inputs catalog e = []

-- the number of the batches that an entry takes
abbrev pub entry_batch : Entry → ℕ
entry_batch (StepEntry q r) = r
entry_batch e = 0

-- each batch that an entry takes is there
abbrev pub HasBatches : Catalog → ReservedStreams → Entry → Type 0
HasBatches catalog streams e = AllByRecursion (HasBatch streams (entry_batch e)) (entry_inputs catalog e)

-- the batches that an entry takes
abbrev pub lent_batches : Catalog → ReservedStreams → Entry → List Rows
lent_batches catalog streams e = map (batch_at streams (entry_batch e)) (entry_inputs catalog e)

-- ---- one execution

-- an entry has run on each database for which the shard and the streams stood and in which it was ready
abbrev pub RanWhereReady : Catalog → ShardValue → ShardValue → List Pending → Entry → Executed → Type 0
RanWhereReady catalog old new streams e executed =
    (db : Database) → HoldsDatabase catalog old db → AreStreamsOf catalog db streams → is_ready_entry catalog db e ≡ true → Ran catalog db e executed new

-- the shard and the streams stand for some database in which the entry is ready
abbrev pub IsReadyOn : Catalog → ShardValue → List Pending → Entry → Type 0
IsReadyOn catalog shard streams e = (db : Database) × HoldsDatabase catalog shard db × AreStreamsOf catalog db streams × (is_ready_entry catalog db e ≡ true)
