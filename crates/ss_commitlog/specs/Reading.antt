-- What is read of the list, and of streams and counts after it.
use Rattle.std.specs.Prelude.{◌≡◌, ◌<◌, ◌≤◌, ◌==◌, ◌&&◌, nat_lt, ℕ, Bool, true, cond, List, length, get_or, slice_get, Option, None}
use Rattle.ss_value.specs.Rows.{Rows}
use Rattle.ss_model.specs.declared.catalog.Catalog.{Catalog}
use Rattle.ss_model.specs.Database.{Database, batch_count, stream_batches}
use Rattle.ss_model.specs.Partitions.{home_of}
use Rattle.ss_model.specs.Settling.{is_ready_now}
use Rattle.ss_model.specs.Accepted.{Accepted}
use Rattle.ss_stream.specs.OfDatabase.{AreStreamsOf}
use Rattle.ss_stream.specs.Pending.{Pending, pending_batch}
use Rattle.ss_stream.specs.Streams.{ReservedStreams, stream_at}
use Rattle.ss_commitlog.specs.Right.{known_database}
use Rattle.ss_commitlog.specs.Roles.{In}
use Rattle.ss_commitlog.specs.Tokens.{Known}

-- the batch that a consumer finds: none where it isn't emitted, or the consumer has passed it
abbrev pub found_batch : Database → ℕ → ℕ → ℕ → Option Rows
found_batch d s q r = cond (nat_lt r (batch_count d q)) None (slice_get (stream_batches d s) r)

-- the streams of the database that each of these tokens knows
abbrev pub AreKnownStreams : Catalog → Database → List Known → List Pending → Type 0
AreKnownStreams catalog db ks streams = (k : Known) → In k ks → AreStreamsOf catalog (known_database catalog db k) streams

-- the procedure's home is this partition, and its next batch is there on each of its inputs
abbrev pub IsReadyAt : Catalog → ℕ → Database → ℕ → ℕ → Type 0
IsReadyAt catalog parts d p q = (home_of catalog parts q ≡ p) × (is_ready_now catalog d q ≡ true)

-- the batch that a consumer finds, by the streams that are kept and the counts of batches taken
abbrev pub batch_at_hand : ReservedStreams → List ℕ → ℕ → ℕ → ℕ → Option Rows
batch_at_hand streams counts s q r = cond (nat_lt r (get_or counts q 0)) None (pending_batch (stream_at streams s) r)

-- the home that is kept of a procedure is this partition, and it is ready
abbrev pub ready_there : Catalog → Database → List ℕ → ℕ → ℕ → Bool
ready_there catalog d homes p q = (get_or homes q 0 == p) && is_ready_now catalog d q

-- and it is one of the first n procedures
abbrev pub IsReadyBelow : ℕ → Catalog → Database → List ℕ → ℕ → ℕ → Type 0
IsReadyBelow n catalog d homes p q = (q < n) × (ready_there catalog d homes p q ≡ true)

-- streams, counts and homes are as many as those of an accepted catalogue
pub record IsSound (catalog : Catalog) (streams : List Pending) (counts homes : List ℕ) : Type 0 where
  pub accepted : Accepted catalog
  pub few : length homes ≤ 64
  pub streams_many : length streams ≡ length catalog.streams
  pub counts_many : length counts ≡ length catalog.procedures
  pub homes_many : length homes ≡ length catalog.procedures
