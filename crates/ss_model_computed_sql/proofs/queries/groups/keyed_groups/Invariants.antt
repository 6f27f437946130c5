use Rattle.std.proofs.Common.{◌≡◌, [], drop}
use Rattle.ss_model.proofs.CallerLemmas.{grouped_onto}
use Rattle.ss_model_computed_sql.proofs.queries.groups.keyed_groups.Given as goal

abbrev pub invariant-loop-here : goal.invariant-loop-here
invariant-loop-here l = grouped_onto l.columns l.groups (drop l.here-index l.found) ≡ grouped_onto l.columns [] l.found
