-- All streams, as contracts see them.
use Rattle.std.specs.Prelude.{◌≡◌, ◌≢◌, ◌<◌, ℕ, List, [], map, get_or, length}
use Rattle.std.specs.List.{range_with_len}
use Rattle.ss_value.specs.Rows.{Rows}
use Rattle.ss_stream.specs.declared.cursor.Cursor.{Cursor}
use Rattle.ss_stream.specs.Pending.{Pending, ReservedStream, CanResume, cursor_at, resume}

-- the streams by number, and beside each how many emits to it can't fail
pub record ReservedStreams : Type 0 where
  pub streams : List Pending
  pub spares : List ℕ

-- both lists, of a list of streams with their room
abbrev pub reserved_streams : List ReservedStream → ReservedStreams
reserved_streams list = record { streams = map (λ s. s.pending) list; spares = map (λ s. s.spare) list }

-- what a number stands for that no stream has: no batch and no consumer
abbrev pub no_stream : Pending
no_stream = record { first = 0; batches = []; cursors = [] }

-- the stream of a number
abbrev pub stream_at : ReservedStreams → ℕ → Pending
stream_at s n = get_or s.streams n no_stream

-- how many emits to the stream of a number can't fail
abbrev pub spare_at : ReservedStreams → ℕ → ℕ
spare_at s n = get_or s.spares n 0

-- the room of all other streams is as it was
abbrev pub SparesElsewhere : ReservedStreams → ReservedStreams → ℕ → Type 0
SparesElsewhere old new n = (m : ℕ) → m ≢ n → spare_at new m ≡ spare_at old m

-- the cursors of these consumers, each at its count
abbrev pub cursors_at : List ℕ → List ℕ → List Cursor
cursors_at counts consumers = map (λ q. cursor_at (get_or counts q 0) q) consumers

-- the streams with these consumers, each at its count, of which these batches are kept
abbrev pub resumed_streams : List ℕ → List (List ℕ) → List (List Rows) → List Pending
resumed_streams counts consumers kept = map (λ s. resume (get_or kept s []) (cursors_at counts (get_or consumers s []))) (range_with_len 0 (length consumers))

-- each stream can be resumed from its list of kept batches
pub record CanResumeAll (counts : List ℕ) (consumers : List (List ℕ)) (kept : List (List Rows)) : Type 0 where
  pub lists : length kept ≡ length consumers
  pub each : (s : ℕ) → s < length consumers → CanResume (get_or kept s []) (cursors_at counts (get_or consumers s []))
