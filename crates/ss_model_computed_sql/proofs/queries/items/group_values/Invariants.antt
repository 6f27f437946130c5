use Rattle.ss_model.specs.Expressions.{expr_value}
use Rattle.ss_model.proofs.CallerLemmas.{Maps}
use Rattle.ss_model_computed_sql.proofs.queries.items.group_values.Given as goal

abbrev pub invariant-loop-here : goal.invariant-loop-here
invariant-loop-here l = Maps (λ here. expr_value here l.params l.tree) l.group l.here-index l.values
