use Rattle.std.proofs.Common.{List, [], sym, ◌∙◌, subst}
use Rattle.std.proofs.lemmas.Option.{IfSome_then}
use Rattle.std.proofs.lemmas.Result.{IfOk-weaker}
use Rattle.ss_sql_trees.specs.declared.typed.SelectItem.{SelectItem}
use Rattle.ss_rows.specs.Folds.{AreStatesOf}
use Rattle.ss_rows.proofs.item_states.states_of.Goals as goal

pub returns-in-None : goal.returns-in-None
returns-in-None c =
    IfOk-weaker c.first_states.result _ _
    (λ found first. IfSome_then found first
    (λ states are. record {
      single = c.in-None.is;
      whole = c.is_empty.ensures.0 c.if-not-is_empty.false;
      aggregated = sym c.is_aggregated.ensures ∙ c.if-not-is_aggregated.false;
      first = λ params. subst (λ (items : List SelectItem). AreStatesOf params items [] states.items) c.as_slice.ensures (are params);
    }))
    c.first_states.ensures
