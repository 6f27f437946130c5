use Rattle.std.proofs.Common.{◌≡◌, ◌++◌, drop}
use Rattle.ss_model_computed_sql.specs.Phases.{pairs_of}
use Rattle.ss_model_computed_sql.proofs.queries.join.add_pairs.Given as goal

abbrev pub invariant-loop-right : goal.invariant-loop-right
invariant-loop-right l = l.tuples ++ pairs_of l.joined l.left (drop l.right-index l.inner) ≡ l.fn.tuples ++ pairs_of l.joined l.left l.inner
