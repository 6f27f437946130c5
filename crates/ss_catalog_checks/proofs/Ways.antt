-- The way up to a border stream.
use Rattle.std.proofs.Common.{◌≡◌, ℕ, ◌+◌, ◌-◌, ◌<◌, suc, cond, slice_get, arith, ap}
use Rattle.ss_model.specs.declared.catalog.Catalog.{Catalog}
use Rattle.ss_model.specs.Database.{is_border}
use Rattle.ss_model.specs.Orders.{procedure_has}
use Rattle.ss_model.specs.Settling.{first_input, emitting_procedure, border_stream_from}

-- one procedure further
pub way_on : (catalog : Catalog) (at n k : ℕ) → k < n →
    border_stream_from (n - k) catalog at
    ≡ cond (procedure_has (λ p. is_border p.kind) (slice_get catalog.procedures at)) (first_input catalog at) (border_stream_from (n - (k + 1)) catalog (emitting_procedure catalog (first_input catalog at)))
way_on catalog at n k h = let e : n - k ≡ suc (n - (k + 1)) = omega arith in ap (λ d. border_stream_from d catalog at) e
