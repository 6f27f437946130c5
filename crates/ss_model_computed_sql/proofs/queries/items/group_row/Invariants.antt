use Rattle.ss_model.specs.Queries.{item_value}
use Rattle.ss_model.proofs.CallerLemmas.{Maps}
use Rattle.ss_model_computed_sql.proofs.queries.items.group_row.Given as goal

abbrev pub invariant-loop-item : goal.invariant-loop-item
invariant-loop-item l = Maps (item_value l.params l.group) l.items l.item-index l.row
