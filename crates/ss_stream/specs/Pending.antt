-- A stream as contracts see it: the batches that some consumer has still to take, and how far each consumer has come.
use Rattle.std.specs.Prelude.{◌≡◌, ◌≤◌, ◌<◌, ◌+◌, ◌-◌, ◌==◌, ◌^◌, ℕ, nat_lt, min, cond, List, [], ◌∷◌, ◌++◌, map, length, drop, slice_get, Option, None, refl}
use Rattle.std.specs.List.{AllByRecursion}
use Rattle.std.specs.Coded.{Coded, code_by, coded×, coded_ℕ, coded_list}
use Rattle.ss_value.specs.contracts.value.Value as value
use Rattle.ss_value.specs.Rows.{Row, Rows}
use Rattle.ss_stream.specs.declared.cursor.Cursor.{Cursor}
use Rattle.ss_stream.specs.contracts.cursor.Cursor as cursor

-- the batches from the first one that some consumer has still to take
pub record Pending : Type 0 where
  -- how many batches all consumers have passed
  pub first : ℕ
  pub batches : List Rows
  pub cursors : List Cursor

-- a stream with its room: how many emits can't fail
pub record ReservedStream : Type 0 where
  pub pending : Pending
  pub spare : ℕ

-- such a stream, field by field
abbrev pub reserved_stream : ℕ → List Rows → List Cursor → ℕ → ReservedStream
reserved_stream first batches cursors spare = record { pending = record { first = first; batches = batches; cursors = cursors }; spare = spare }

-- how many batches were ever emitted
abbrev pub emitted_count : Pending → ℕ
emitted_count p = p.first + length p.batches

-- the least of these cursors and of `ever`, the number of batches ever emitted
abbrev pub least_passed : ℕ → List Cursor → ℕ
least_passed ever [] = ever
least_passed ever (c ∷ cs) = min c.passed (least_passed ever cs)

-- the cursor of procedure q, which has passed so many batches
abbrev pub cursor_at : ℕ → ℕ → Cursor
cursor_at passed q = record { consumer = q; passed = passed }

-- a stream of these consumers before its first batch
abbrev pub pending_at_first : List ℕ → Pending
pending_at_first consumers = record { first = 0; batches = []; cursors = map (cursor_at 0) consumers }

-- of these batches, the first of which has the number `first`, those that some cursor has still to pass
abbrev pub pending_from : ℕ → List Rows → List Cursor → Pending
pending_from first batches cursors =
    let least = least_passed (first + length batches) cursors in
    record { first = least; batches = drop (least - first) batches; cursors = cursors }

-- the stream with one batch more, which is dropped at once where there is no consumer
abbrev pub with_batch : Pending → Rows → Pending
with_batch p rows = pending_from p.first (p.batches ++ rows ∷ []) p.cursors

-- a cursor, one batch further if it is procedure q's
abbrev pub moved_cursor : ℕ → Cursor → Cursor
moved_cursor q c = cond (c.consumer == q) (record c { passed = c.passed + 1 }) c

-- the stream after procedure q has passed one batch more
abbrev pub passed_by : Pending → ℕ → Pending
passed_by p q = pending_from p.first p.batches (map (moved_cursor q) p.cursors)

-- the batch of a number, and none where all consumers have passed it or it isn't emitted yet
abbrev pub pending_batch : Pending → ℕ → Option Rows
pending_batch p r = cond (nat_lt r p.first) None (slice_get p.batches (r - p.first))

-- procedure q, if it takes the stream, has still a batch to pass
abbrev pub HasNext : Pending → ℕ → Type 0
HasNext p q = AllByRecursion (λ c. c.consumer ≡ q → c.passed < emitted_count p) p.cursors

-- no cursor is past the batches, the first one kept is the least cursor's next, and the count of batches is far from the end of 64 bits
pub record IsPending (p : Pending) : Type 0 where
  pub within : AllByRecursion (λ c. c.passed ≤ emitted_count p) p.cursors
  pub least : p.first ≡ least_passed (emitted_count p) p.cursors
  pub small : emitted_count p ≤ 2 ^ 62

-- the least of these cursors, and 0 of none
abbrev pub least_cursor : List Cursor → ℕ
least_cursor [] = 0
least_cursor (c ∷ cs) = least_passed c.passed cs

-- a stream with these cursors, of which these batches are kept: the first is the one that the least cursor has still to pass
abbrev pub resume : List Rows → List Cursor → Pending
resume batches cursors = record { first = least_cursor cursors; batches = batches; cursors = cursors }

-- batches are kept for a consumer, no cursor is past the kept batches, and at most 2^62 batches were ever emitted
pub record CanResume (batches : List Rows) (cursors : List Cursor) : Type 0 where
  pub some : 0 < length batches → 0 < length cursors
  pub within : AllByRecursion (λ c. c.passed ≤ least_cursor cursors + length batches) cursors
  pub few : least_cursor cursors + length batches ≤ 2 ^ 62

-- how rows are told apart
abbrev pub coded_row : Coded Row
coded_row = coded_list value.the_row.coded

-- how streams are told apart
abbrev pub coded_reserved : Coded ReservedStream
coded_reserved = code_by (ℕ × (List Rows × (List Cursor × ℕ))) (coded× coded_ℕ (coded× (coded_list (coded_list coded_row)) (coded× (coded_list cursor.the_row.coded) coded_ℕ)))
    (λ s. (s.pending.first, (s.pending.batches, (s.pending.cursors, s.spare)))) (λ p. record { pending = record { first = p.0; batches = p.1.0; cursors = p.1.1.0 }; spare = p.1.1.1 }) (λ _. refl)
