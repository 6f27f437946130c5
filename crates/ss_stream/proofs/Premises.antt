-- What can be resumed, at a stream of two consumers, and that what is kept of a stream is the stream again.
use Rattle.std.proofs.Common.{◌≡◌, ◌≤◌, ◌<◌, ◌+◌, ◌-◌, ℕ, zero, suc, List, [], ◌∷◌, length, drop, get_or, arith, refl}
use Rattle.std.specs.List.{AllByRecursion}
use Rattle.ss_value.specs.Rows.{Rows}
use Rattle.ss_stream.specs.declared.cursor.Cursor.{Cursor}
use Rattle.ss_stream.specs.Pending.{CanResume, HasNext, cursor_at, least_passed, pending_from, resume}
use Rattle.ss_stream.specs.Streams.{CanResumeAll, cursors_at, resumed_streams}
use Rattle.ss_stream.proofs.Resumed.{least-of_some}

-- of three batches the first is passed by both, and the second by one
abbrev counts : List ℕ
counts = 1 ∷ 2 ∷ []

abbrev consumers : List (List ℕ)
consumers = (0 ∷ 1 ∷ []) ∷ []

abbrev kept : List (List Rows)
kept = ([] ∷ [] ∷ []) ∷ []

each : (s : ℕ) → s < 1 → CanResume (get_or kept s []) (cursors_at counts (get_or consumers s []))
each zero lt = record { some = λ kept. omega arith; within = (omega arith, (omega arith, tt)); few = omega arith }
each (suc s) lt = absurd (omega arith)

can_resume : CanResumeAll counts consumers kept
can_resume = record { lists = refl; each = each }

is_resumed : resumed_streams counts consumers kept ≡ record { first = 1; batches = [] ∷ [] ∷ []; cursors = cursor_at 1 0 ∷ cursor_at 2 1 ∷ [] } ∷ []
is_resumed = refl

has_next : HasNext (pending_from 0 ([] ∷ []) (cursor_at 0 0 ∷ [])) 0
has_next = ((λ e. omega arith), tt)

-- the batches from the least cursor on make the stream again
kept_again : (batches : List Rows) (cursors : List Cursor) → 0 < length cursors → AllByRecursion (λ c. c.passed ≤ length batches) cursors
    → resume (drop (least_passed (length batches) cursors) batches) cursors ≡ pending_from 0 batches cursors
kept_again batches cursors some within =
    let none : 0 + length batches ≡ length batches = omega arith in
    let least = least-of_some (length batches) cursors some within in
    let same : least_passed (length batches) cursors - 0 ≡ least_passed (length batches) cursors = omega arith in
    rw (none, same, least) refl
