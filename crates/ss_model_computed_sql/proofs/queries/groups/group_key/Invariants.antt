use Rattle.std.proofs.Common.{◌≡◌, ◌++◌, map, drop}
use Rattle.ss_model.specs.Queries.{source_column}
use Rattle.ss_model_computed_sql.proofs.queries.groups.group_key.Given as goal

abbrev pub invariant-loop-column : goal.invariant-loop-column
invariant-loop-column l = l.key ++ map (λ c. source_column c l.here) (drop l.column-index l.columns) ≡ map (λ c. source_column c l.here) l.columns
