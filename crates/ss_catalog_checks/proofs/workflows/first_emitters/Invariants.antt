use Rattle.std.proofs.Common.{◌≡◌, ◌-◌, ℕ, None, get_or, length}
use Rattle.std.specs.List.{find, range_with_len}
use Rattle.ss_model.specs.Orders.{procedure_emits}
use Rattle.ss_catalog_checks.proofs.workflows.first_emitters.Given as goal

abbrev pub invariant-loop-procedure : goal.invariant-loop-procedure
invariant-loop-procedure l = (s : ℕ) → get_or l.emitters s None ≡ find (λ p. procedure_emits l.catalog p s) (range_with_len l.procedure (length l.catalog.procedures - l.procedure))
