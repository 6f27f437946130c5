use Rattle.std.proofs.Common.{◌≡◌, ◌++◌, drop}
use Rattle.ss_model.proofs.CallerLemmas.{members_of}
use Rattle.ss_model_computed_sql.proofs.queries.groups.members.Given as goal

abbrev pub invariant-loop-group : goal.invariant-loop-group
invariant-loop-group l = l.members ++ members_of (drop l.group-index l.groups) ≡ members_of l.groups
