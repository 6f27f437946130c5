use Rattle.std.proofs.Common.{◌≡◌, ◌≤◌, ◌+◌, ◌-◌, ◌&&◌, ℕ, length, slice_get}
use Rattle.std.specs.List.{count_by, range_with_len}
use Rattle.ss_model.specs.Database.{takes_stream}
use Rattle.ss_model.specs.Orders.{procedure_has}
use Rattle.ss_catalog_checks.specs.Tallies.{count_at, StayBelow, is_counted, takers}
use Rattle.ss_catalog_checks.proofs.tallies.count_takers.Given as goal

abbrev pub invariant-loop-procedure : goal.invariant-loop-procedure
invariant-loop-procedure l =
    StayBelow l.tallies
    × ((s : ℕ) → (count_at l.tallies s).below ≤ l.procedure)
    × ((s : ℕ) → (count_at l.tallies s).count + count_by (λ p. procedure_has (λ d. is_counted l.kinds d.kind && takes_stream s d) (slice_get l.catalog.procedures p)) (range_with_len l.procedure (length l.catalog.procedures - l.procedure)) ≡ takers l.kinds l.catalog s)
