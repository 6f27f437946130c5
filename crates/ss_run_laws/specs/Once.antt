-- Exactly once: which batches each procedure has taken behind a list that leaves none to take.
use Rattle.std.specs.Prelude.{◌≡◌, ◌<◌, ◌+◌, ◌-◌, ◌==◌, ℕ, nat_lt, true, cond, List, length}
use Rattle.std.specs.List.{count_by, range_with_len}
use Rattle.ss_model.specs.declared.catalog.Catalog.{Catalog}
use Rattle.ss_model.specs.declared.entry.Listed.{Listed}
use Rattle.ss_model.specs.Accepted.{Accepted}
use Rattle.ss_model.specs.Database.{Database, batch_count, stream_batches}
use Rattle.ss_model.specs.InStep.{IsInStep}
use Rattle.ss_model.specs.Orders.{batches_taken, accepted_pushes}
use Rattle.ss_model.specs.Replays.{Replays, after}
use Rattle.ss_model.specs.Settling.{Drained, border_stream, streams_on}

-- how many batches the workflow of a procedure has had
abbrev pub workflow_batches : Catalog → Database → ℕ → ℕ
workflow_batches catalog db q = length (stream_batches db (border_stream catalog q))

-- how often a procedure has taken a batch behind a list: once before the list where its count was past it, and in the list
abbrev pub times_taken : Database → List Listed → ℕ → ℕ → ℕ
times_taken db list q r = cond (nat_lt r (batch_count db q)) 1 0 + count_by (λ n. n == r) (batches_taken q list)

-- a procedure takes in a list just the batches of its workflow that it had not taken before
pub record TakesEach (catalog : Catalog) (db : Database) (list : List Listed) (q : ℕ) : Type 0 where
  -- each of them once, in order, from its count on up to the last
  pub in_order : batches_taken q list ≡ range_with_len (batch_count db q) (workflow_batches catalog (after catalog db list) q - batch_count db q)
  -- the batches of its workflow are those that were there, and one for each push to it that the list accepted
  pub accepted : workflow_batches catalog (after catalog db list) q ≡ workflow_batches catalog db q + accepted_pushes (border_stream catalog q) list
  -- so each batch of its workflow has met it exactly once
  pub once : (r : ℕ) → r < workflow_batches catalog (after catalog db list) q → times_taken db list q r ≡ 1

-- law: each streaming procedure does, in a list that replays and leaves a drained database
abbrev pub TakesEachOnce : Type 0
TakesEachOnce =
    (catalog : Catalog) → Accepted catalog → (db : Database) → IsInStep catalog db → (list : List Listed) → Replays catalog db list →
    Drained catalog (after catalog db list) → (q : ℕ) → streams_on catalog q ≡ true → TakesEach catalog db list q
