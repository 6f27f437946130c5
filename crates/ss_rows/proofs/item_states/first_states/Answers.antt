use Rattle.std.proofs.Common.{◌≡◌, ◌++◌, ◌∷◌, [], List, take_all, subst}
use Rattle.ss_sql_trees.specs.declared.typed.SelectItem.{SelectItem}
use Rattle.ss_rows.specs.Folds.{AreStatesOf}
use Rattle.ss_rows.proofs.Folds.{states_more}
use Rattle.ss_rows.proofs.item_states.first_states.Goals as goal

pub loop-item-preserved : goal.loop-item-preserved
loop-item-preserved c =
    let grown : c.push.new.self.items ≡ c.loop-item.states.items ++ c.in-Some.state ∷ [] = c.in_ok-push.ensures.items in
    states_more c.args.items.now c.loop-item.item-index c.item-item.result c.loop-item-test.true c.item-item.is
    c.loop-item.states.items c.push.new.self.items c.in-Some.state c.loop-item.invariant c.in-Some.ensures grown

pub returns : goal.returns
returns c = λ params. subst (λ (items : List SelectItem). AreStatesOf params items [] c.loop-item.states.items) (take_all c.loop-item.item-index c.args.items.now c.loop-item-test.false) (c.loop-item.invariant params)
