use Rattle.std.proofs.Common.{◌≡◌, ◌≤◌, ◌+◌, ◌-◌, ℕ, length}
use Rattle.std.specs.List.{count_by, range_with_len}
use Rattle.ss_model.specs.Orders.{procedure_emits}
use Rattle.ss_catalog_checks.specs.StreamEnds.{emitters}
use Rattle.ss_catalog_checks.specs.Tallies.{count_at, StayBelow}
use Rattle.ss_catalog_checks.proofs.tallies.count_emitters.Given as goal

abbrev pub invariant-loop-procedure : goal.invariant-loop-procedure
invariant-loop-procedure l =
    StayBelow l.tallies
    × ((s : ℕ) → (count_at l.tallies s).below ≤ l.procedure)
    × ((s : ℕ) → (count_at l.tallies s).count + count_by (λ p. procedure_emits l.catalog p s) (range_with_len l.procedure (length l.catalog.procedures - l.procedure)) ≡ emitters l.catalog s)
