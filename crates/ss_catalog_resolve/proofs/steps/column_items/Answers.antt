use Rattle.std.proofs.Common.{◌∙◌, ap, sym, ◌++◌, ◌∷◌, [], zero-add, List}
use Rattle.std.proofs.lemmas.List.FromFn.{map-range_with_len_more}
use Rattle.ss_sql_trees.specs.declared.typed.SelectItem.{SelectItem}
use Rattle.ss_catalog_resolve.specs.Steps.{column_item}
use Rattle.ss_catalog_resolve.proofs.steps.column_items.Goals as goal

pub loop-column-preserved : goal.loop-column-preserved
loop-column-preserved c = c.in_ok-push.ensures.ok ∙ ap (λ (items : List SelectItem). items ++ column_item c.loop-column.column ∷ []) c.loop-column.invariant ∙ sym (map-range_with_len_more column_item 0 c.loop-column.column c.loop-column.column (zero-add c.loop-column.column))
