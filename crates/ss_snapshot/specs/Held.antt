-- What is kept of the whole database that a shard and streams stand for, told by themselves, and its image.
use Rattle.std.specs.Prelude.{◌≡◌, ℕ, true, false, length, List, map}
use Rattle.std.specs.List.{range_with_len}
use Rattle.std.specs.FinMap as finmap
use Rattle.ss_value.specs.Rows.{Rows}
use Rattle.ss_model.specs.declared.catalog.Catalog.{Catalog}
use Rattle.ss_model.specs.Database.{Database, NextNumbers, is_border_stream}
use Rattle.ss_model.specs.Settling.{Kept, kept}
use Rattle.ss_model.specs.WholeDatabase.{WholeDatabase}
use Rattle.ss_stream.specs.Pending.{Pending, emitted_count}
use Rattle.ss_stream.specs.OfDatabase.{AreStreamsOf, consumers_of}
use Rattle.ss_stream.specs.Streams.{cursors_at}
use Rattle.ss_shard.specs.Bodies.{texts_of}
use Rattle.ss_shard.specs.Contents.{tables_of}
use Rattle.ss_shard.specs.ShardValue.{ShardValue}
use Rattle.ss_shard.specs.Sources.{numbers_at, positive}
use Rattle.ss_shard.specs.Windows.{kept_part, HoldsDatabase}
use Rattle.ss_standing.specs.FitsImage.{FitsImage}
use Rattle.ss_standing.specs.Image.{image_bytes}

-- how many batches a stream has had, which of them is the first kept one, and the kept ones
abbrev pub held_stream : Pending → ℕ × (ℕ × List Rows)
held_stream p = (emitted_count p, (p.first, p.batches))

-- what is kept of what they hold
abbrev pub kept_held : Catalog → ShardValue → List Pending → Kept
kept_held catalog shard streams = record {
  tables = tables_of shard.tables;
  windows = map kept_part shard.windows;
  streams = map held_stream streams;
  counts = shard.cursors;
  next_numbers = map positive shard.sources;
  bodies = texts_of catalog shard.bodies;
}

-- law: a shard and streams that stand for a whole database tell what is kept of it
abbrev pub HeldTellsKept : Type 0
HeldTellsKept =
    (catalog : Catalog) (d : Database) (shard : ShardValue) (streams : List Pending) → HoldsDatabase catalog shard d → AreStreamsOf catalog d streams →
    WholeDatabase catalog d → kept catalog d ≡ kept_held catalog shard streams

-- the cursors of each stream are those of the procedures that take it, each at its procedure's count
abbrev pub AreAtCounts : Catalog → List ℕ → List Pending → Type 0
AreAtCounts catalog counts streams =
    map (λ (p : Pending). p.cursors) streams ≡ map (λ s. cursors_at counts (consumers_of catalog s)) (range_with_len 0 (length catalog.streams))

-- law: a shard and streams that tell what is kept of a whole database stand for it, where the streams' cursors are at the counts
abbrev pub KeptTellsHeld : Type 0
KeptTellsHeld =
    (catalog : Catalog) (d : Database) (shard : ShardValue) (streams : List Pending) → WholeDatabase catalog d →
    kept catalog d ≡ kept_held catalog shard streams → AreAtCounts catalog shard.cursors streams → HoldsDatabase catalog shard d × AreStreamsOf catalog d streams

-- they stand for some whole database
abbrev pub StandForSome : Catalog → ShardValue → List Pending → Type 0
StandForSome catalog shard streams = (d : Database) × HoldsDatabase catalog shard d × AreStreamsOf catalog d streams × WholeDatabase catalog d

-- what holds of each whole database that they stand for
abbrev pub OfWhatTheyHold : Catalog → ShardValue → List Pending → (Database → Type 0) → Type 0
OfWhatTheyHold catalog shard streams P = (d : Database) → HoldsDatabase catalog shard d → AreStreamsOf catalog d streams → WholeDatabase catalog d → P d

-- these bytes are the image of it, with bodies
abbrev pub SpellsHeld : Catalog → ShardValue → List Pending → List ℕ → Type 0
SpellsHeld catalog shard streams image = OfWhatTheyHold catalog shard streams (λ d. image ≡ image_bytes true catalog (kept catalog d))

-- an image has room for what is kept of it
abbrev pub FitsHeld : Catalog → ShardValue → List Pending → Type 0
FitsHeld catalog shard streams = OfWhatTheyHold catalog shard streams (λ d. FitsImage true catalog (kept catalog d))

-- a stream that is no border stream has no source with a number
abbrev pub HaveNoSources : Catalog → List NextNumbers → Type 0
HaveNoSources catalog sources = (s : ℕ) → is_border_stream catalog s ≡ false → positive (numbers_at sources s) ≡ finmap.empty
