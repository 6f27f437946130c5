use Rattle.std.proofs.Common.{Option, IfSome, subst, unwrap_or}
use Rattle.ss_lemmas.proofs.Results.{if_ok}
use Rattle.ss_model.specs.declared.catalog.Body.{Body}
use Rattle.ss_model.specs.declared.catalog.Catalog.{Catalog}
use Rattle.ss_catalog.specs.Bodies.{MayHave}
use Rattle.ss_nest.specs.Bodies.{IsNestedBodyIfAny, IsPlainOf}
use Rattle.ss_nest.proofs.PlainBodies.{may_if_any}
use Rattle.ss_nest.proofs.bodies.nested_body_of.Goals as goal

pub body_of_in-requires-clause-is_plain : goal.body_of_in-requires-clause-is_plain
body_of_in-requires-clause-is_plain c =
    subst (λ (found : Option Catalog). IsPlainOf c.args.catalog.now (unwrap_or found c.args.catalog.now)) c.in-Some.is c.in_ok-plain.ensures

pub body_of_in-requires-in-None-clause-is_plain : goal.body_of_in-requires-in-None-clause-is_plain
body_of_in-requires-in-None-clause-is_plain c =
    subst (λ (found : Option Catalog). IsPlainOf c.args.catalog.now (unwrap_or found c.args.catalog.now)) c.in-None.is c.in_ok-plain.ensures

pub returns-in-Some-clause-may_have : goal.returns-in-Some-clause-may_have
returns-in-Some-clause-may_have c =
    let catalog = c.args.catalog.now in
    let q = c.args.procedure in
    let text = c.args.text.now in
    if_ok (IsNestedBodyIfAny catalog q text) (λ (found : Option Body). IfSome found (λ (b : Body). MayHave catalog q b.steps))
    (may_if_any c.a_nested_body_has_one_answer.ensures.stands catalog q text) c.body_of_in.result c.body_of_in.ensures

pub returns-in-None-clause-may_have : goal.returns-in-None-clause-may_have
returns-in-None-clause-may_have c =
    let catalog = c.args.catalog.now in
    let q = c.args.procedure in
    let text = c.args.text.now in
    if_ok (IsNestedBodyIfAny catalog q text) (λ (found : Option Body). IfSome found (λ (b : Body). MayHave catalog q b.steps))
    (may_if_any c.a_nested_body_has_one_answer.ensures.stands catalog q text) c.body_of_in-in-None.result c.body_of_in-in-None.ensures
