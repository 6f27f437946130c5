use Rattle.std.proofs.Common.{◌≡◌, drop, ◌+ℤ◌}
use Rattle.ss_model.specs.Queries.{sum_values}
use Rattle.ss_model_computed_sql.proofs.queries.items.sum_values.Given as goal

abbrev pub invariant-loop-value : goal.invariant-loop-value
invariant-loop-value l = l.total +ℤ sum_values (drop l.value-index l.values) ≡ sum_values l.values
