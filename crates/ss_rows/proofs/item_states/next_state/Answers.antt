use Rattle.std.proofs.Common.{◌≡◌, ◌++◌, [], ◌∷◌, ℤ, ◌+ℤ◌, SFits, Some, ap, sym, ◌∙◌, subst, rules}
use Rattle.std.specs.Int.{w128}
use Rattle.std.proofs.lemmas.Int.{to_z-of_z}
use Rattle.ss_value.specs.declared.value.Value.{Value}
use Rattle.ss_model.specs.Expressions.{int_of}
use Rattle.ss_model.specs.Extremes.{beats}
use Rattle.ss_model.specs.Queries.{extreme_value}
use Rattle.ss_rows.specs.Folds.{so_far, IsNext}
use Rattle.ss_rows.specs.Lent.{lent_value}
use Rattle.ss_rows.specs.Tuples.{tuple_of}
use Rattle.ss_rows.specs.declared.item_states.ItemState.{ItemState}
use Rattle.ss_rows.specs.declared.item_states.ItemState.TheVariants.{Totalled, Best}
use Rattle.ss_rows.proofs.Folds.{total_next, best_next}
use Rattle.ss_rows.proofs.item_states.next_state.Goals as goal

pub returns-in-Some-checked_add : goal.returns-in-Some-checked_add
returns-in-Some-checked_add c =
    let t = c.in-Totalled in
    let here = tuple_of c.args.here in
    let more = c.in-Some-checked_add.more in
    let grown : more ≡ t.total +ℤ int_of (lent_value c.args.params.now here t.operand.now) = search rules in
    let fits : SFits w128 more = search rules in
    let next = subst (λ (state : ItemState). IsNext c.args.params.now here state (Totalled t.operand more)) (sym t.is) (total_next c.args.params.now here t.operand t.total more grown) in
    subst (λ (total : ℤ). IsNext c.args.params.now here c.args.state (Totalled t.operand total)) (sym (to_z-of_z w128 more fits)) next

pub returns-in-Best : goal.returns-in-Best
returns-in-Best c =
    let b = c.in-Best in
    let here = tuple_of c.args.here in
    let is = ap (λ (v : Value). extreme_value (beats b.extreme) (so_far b.best ++ v ∷ [])) (sym c.lent_value-value-in-Best.ensures) ∙ c.better-found.ensures in
    subst (λ (state : ItemState). IsNext c.args.params.now here state (Best b.extreme b.operand (Some c.better-found.result))) (sym b.is) (best_next c.args.params.now here b.extreme b.operand b.best c.better-found.result is)
