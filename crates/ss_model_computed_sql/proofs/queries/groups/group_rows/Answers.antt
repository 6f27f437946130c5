use Rattle.std.proofs.Common.{◌≡◌, [], IfOk, List, ap, ◌∙◌, subst, rules}
use Rattle.ss_value.specs.Rows.{Rows}
use Rattle.ss_model.specs.Queries.{group_rows}
use Rattle.ss_model.proofs.CallerLemmas.{members_of, grouped_onto, grouped}
use Rattle.ss_model_computed_sql.proofs.queries.groups.group_rows.Goals as goal

pub returns : goal.returns
returns c =
    let columns = c.args.columns.now in
    let is : members_of c.as_slice-2.result.now ≡ group_rows columns c.args.found.now =
    ap members_of (c.as_slice-2.ensures ∙ c.in_ok-groups.ensures ∙ ap (grouped_onto columns []) c.as_slice.ensures) ∙ grouped columns c.args.found.now (search rules) in
    subst (λ (groups : List (List Rows)). IfOk c.members.result (λ (members : List (List Rows)). members ≡ groups)) is c.members.ensures
