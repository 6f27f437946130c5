use Rattle.std.proofs.Common.{◌≡◌, ◌++◌, ◌∷◌, [], List, Some, None, ap, sym, ◌∙◌, rules}
use Rattle.std.specs.List.{position}
use Rattle.std.specs.Ordering.{eq_by_cmp}
use Rattle.ss_value.specs.Rows.{Row, Rows}
use Rattle.ss_value.specs.Order.{row_cmp}
use Rattle.ss_model.proofs.CallerLemmas.{into_group, new_group, on_ok}
use Rattle.ss_model_computed_sql.proofs.queries.groups.add_to_group.Goals as goal

pub returns-in-Some-get_mut : goal.returns-in-Some-get_mut
returns-in-Some-get_mut c =
    let found : position (λ (g : Row × List Rows). eq_by_cmp row_cmp c.args.key g.0) c.args.groups.now ≡ Some c.in-Some.position = rw (← c.as_slice.ensures) (sym c.in-Some.ensures) in
    on_ok c.add_member.result (λ grown. into_group c.args.key c.args.here c.args.groups.now c.in-Some.position c.in-Some-get_mut.group.now c.add_member.new.group found c.in-Some-get_mut.ensures.item grown) c.add_member.ensures

pub returns-in_ok-push-in-None : goal.returns-in_ok-push-in-None
returns-in_ok-push-in-None c =
    let none : position (λ (g : Row × List Rows). eq_by_cmp row_cmp c.args.key g.0) c.args.groups.now ≡ None = rw (← c.as_slice.ensures) (sym c.in-None.ensures) in
    let pushed : c.push.new.self ≡ c.args.groups.now ++ (c.args.key, c.in_ok-members-in-None.members) ∷ [] = search rules in
    pushed ∙ ap (λ (members : List Rows). c.args.groups.now ++ (c.args.key, members) ∷ []) c.in_ok-members-in-None.ensures ∙ new_group c.args.key c.args.here c.args.groups.now none
