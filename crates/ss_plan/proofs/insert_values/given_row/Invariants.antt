use Rattle.std.proofs.Common.{◌≡◌, ◌++◌, [], drop, Ok}
use Rattle.ss_model.specs.Results.{◌>>=◌, try_map}
use Rattle.ss_model.specs.Expressions.{expr_value}
use Rattle.ss_plan.proofs.insert_values.given_row.Given as goal

abbrev pub invariant-loop-tree : goal.invariant-loop-tree
invariant-loop-tree l =
    (try_map (expr_value [] l.params) (drop l.tree-index l.values) >>= λ values. Ok (l.row ++ values)) ≡ try_map (expr_value [] l.params) l.values
