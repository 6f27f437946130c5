use Rattle.ss_model.specs.Queries.{where_passes}
use Rattle.ss_model.proofs.CallerLemmas.{Filters}
use Rattle.ss_model_computed_sql.proofs.queries.filter.passing_tuples.Given as goal

abbrev pub invariant-loop-here : goal.invariant-loop-here
invariant-loop-here l = Filters (where_passes l.params l.test) l.tuples l.here-index l.found
