use Rattle.std.proofs.Common.{◌≡◌, ◌++◌, [], drop, Ok}
use Rattle.ss_model.specs.Results.{◌>>=◌, try_map}
use Rattle.ss_model.specs.Expressions.{expr_value}
use Rattle.ss_model_computed.proofs.effects.given_row.Given as goal

abbrev pub invariant-loop-value : goal.invariant-loop-value
invariant-loop-value l = record {
  folds : (try_map (expr_value [] l.params) (drop l.value-index l.values) >>= λ row. Ok (l.row ++ row)) ≡ try_map (expr_value [] l.params) l.values;
  nothing : l.nothing-inside.items.items ≡ [];
}
