use Rattle.std.proofs.Common.{◌≡◌, drop}
use Rattle.ss_model.proofs.CallerLemmas.{best}
use Rattle.ss_model_computed_sql.proofs.queries.extreme.best_value.Given as goal

abbrev pub invariant-loop-value : goal.invariant-loop-value
invariant-loop-value l = best l.extreme l.best (drop l.value-index l.values) ≡ best l.extreme l.first l.values
