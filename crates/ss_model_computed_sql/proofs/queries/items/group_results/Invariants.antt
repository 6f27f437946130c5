use Rattle.ss_model.specs.Results.{try_map}
use Rattle.ss_model.specs.Queries.{item_value}
use Rattle.ss_model.proofs.CallerLemmas.{Maps}
use Rattle.ss_model_computed_sql.proofs.queries.items.group_results.Given as goal

abbrev pub invariant-loop-group : goal.invariant-loop-group
invariant-loop-group l = Maps (λ group. try_map (item_value l.params group) l.items) l.groups l.group-index l.rows
