use Rattle.std.proofs.Common.{◌≡◌, ◌++◌, Some, drop}
use Rattle.ss_model.specs.Queries.{join_rows}
use Rattle.ss_model_computed_sql.proofs.queries.join.pairs.Given as goal

abbrev pub invariant-loop-left : goal.invariant-loop-left
invariant-loop-left l = l.tuples ++ join_rows (drop l.left-index l.outer) (Some (l.joined, l.inner)) ≡ join_rows l.outer (Some (l.joined, l.inner))
