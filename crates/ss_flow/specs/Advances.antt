-- What it takes to move streams over an entry, its batches and room for them, and what comes of it.
use Rattle.std.specs.Prelude.{◌≡◌, ◌<◌, ◌≤◌, ◌^◌, ◌==◌, ℕ, cond, List, length, Some}
use Rattle.std.specs.List.{AllByRecursion, list_any}
use Rattle.ss_model.specs.declared.catalog.Catalog.{Catalog}
use Rattle.ss_model.specs.declared.entry.Emitted.{Emitted}
use Rattle.ss_model.specs.declared.entry.Entry.{Entry}
use Rattle.ss_model.specs.Batches.{emitted_batches}
use Rattle.ss_model.specs.Database.{Database, Applied, apply, stream_batches}
use Rattle.ss_model.specs.Orders.{HasShape}
use Rattle.ss_stream.specs.Pending.{Pending, passed_by}
use Rattle.ss_stream.specs.Streams.{ReservedStreams, spare_at, stream_at}
use Rattle.ss_stream.specs.OfDatabase.{AreStreamsOf}

-- there is room for each of these batches, no two of which are for one stream
abbrev pub HasRoom : ReservedStreams → List Emitted → Type 0
HasRoom streams batches = AllByRecursion (λ (b : Emitted). 0 < spare_at streams b.stream) batches

-- an entry has a value on a database of which these are the streams, these batches travel with it, and each stream has had
-- fewer than 2^62 batches
pub record Advances (catalog : Catalog) (db : Database) (e : Entry) (a : Applied) (batches : List Emitted) (streams : List Pending) : Type 0 where
  pub shape : HasShape catalog db
  pub applies : apply catalog db e ≡ Some a
  pub batches_are : batches ≡ emitted_batches catalog e a
  pub streams_are : AreStreamsOf catalog db streams
  pub few : (s : ℕ) → length (stream_batches db s) < 2 ^ 62

-- whatever database the old ones were the streams of, the new ones are those of the database after the entry
abbrev pub FollowAll : Catalog → Entry → List Emitted → List Pending → List Pending → Type 0
FollowAll catalog e batches old new = (db : Database) (a : Applied) → Advances catalog db e a batches old → AreStreamsOf catalog a.db new

-- no stream has less room
abbrev pub LeavesRoom : ReservedStreams → ReservedStreams → Type 0
LeavesRoom old new = (s : ℕ) → spare_at old s ≤ spare_at new s

-- the stream of a number, one batch of which this procedure has passed where it is one of these inputs
abbrev pub passed_among : ReservedStreams → ℕ → List ℕ → ℕ → Pending
passed_among streams q inputs s = cond (list_any (λ i. i == s) inputs) (passed_by (stream_at streams s) q) (stream_at streams s)
