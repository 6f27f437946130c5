-- The kept batches of a stream, by their numbers.
use Rattle.std.proofs.Common.{◌≡◌, ℕ, ◌-◌, ◌≤◌, Bool, cond, None, ap}
use Rattle.std.specs.List.{slice_get}
use Rattle.std.proofs.lemmas.Bool.{le-ltb}
use Rattle.ss_stream.specs.Pending.{Pending, pending_batch}

-- from the first kept one on a batch is found at its position
pub kept_batch : (p : Pending) (r : ℕ) → p.first ≤ r → pending_batch p r ≡ slice_get p.batches (r - p.first)
kept_batch p r from = ap (λ (b : Bool). cond b None (slice_get p.batches (r - p.first))) (le-ltb r p.first from)
