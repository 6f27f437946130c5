use Rattle.std.proofs.Common.{◌≡◌, ◌∙◌, ◌≤◌, sym, subst}
use Rattle.std.specs.Prelude.{Option, Some, IfSome}
use Rattle.std.specs.Str.{bytes_eq}
use Rattle.serde_json.specs.Data.{depth}
use Rattle.serde_json.specs.Read.{max_depth, read}
use Rattle.serde_json.specs.View.{view}
use Rattle.serde_json.specs.declared.value.Value.{Value}
use Rattle.ss_model.specs.declared.catalog.Body.{Body}
use Rattle.ss_catalog.specs.Bodies.{IsBodyIfAny, MayHave}
use Rattle.ss_catalog.proofs.BodyOfText.{none_of_refused, told, some_may}
use Rattle.ss_catalog.proofs.bodies.body_of.Goals as goal

pub returns-in-Ok-clause-ok : goal.returns-in-Ok-clause-ok
returns-in-Ok-clause-ok c =
    let text = c.args.text.now in
    let json = subst (λ (o : Option Value). IfSome o (λ (v : Value). (read text ≡ Some (view v)) × (depth (view v) ≤ max_depth))) c.in-Some.is c.in_ok-value.ensures.some in
    subst (IsBodyIfAny c.args.catalog.now c.args.procedure text) (sym c.if_text.ensures)
    (told c.args.catalog.now c.args.procedure text (view c.in-Some.value) json.0 c.a_body_has_one_answer.ensures.body c.in-Ok.body c.in-Ok.ensures.ok)

pub returns-in-Ok-clause-may_have : goal.returns-in-Ok-clause-may_have
returns-in-Ok-clause-may_have c =
    subst (λ (o : Option Body). IfSome o (λ (b : Body). MayHave c.args.catalog.now c.args.procedure b.steps)) (sym c.if_text.ensures)
    (some_may c.args.catalog.now c.args.procedure c.in-Ok.body c.in-Ok.ensures.may_have (bytes_eq c.in-Ok.body.text c.args.text.now))

pub returns-clause-ok : goal.returns-clause-ok
returns-clause-ok c =
    let text = c.args.text.now in
    let json = subst (λ (o : Option Value). IfSome o (λ (v : Value). (read text ≡ Some (view v)) × (depth (view v) ≤ max_depth))) c.in-Some.is c.in_ok-value.ensures.some in
    none_of_refused c.args.catalog.now c.args.procedure text (view c.in-Some.value) json.0 c.a_body_has_one_answer.ensures.either c.in-Err.refused
    (sym c.is_no_memory.ensures ∙ c.if-is_no_memory.false) c.in-Err.ensures.refused
