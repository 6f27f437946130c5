use Rattle.std.proofs.Common.{Option, subst, unwrap_or}
use Rattle.serde_json.specs.View.{view}
use Rattle.ss_lemmas.proofs.Results.{if_ok}
use Rattle.ss_model.specs.declared.catalog.Body.{Body}
use Rattle.ss_model.specs.declared.catalog.Catalog.{Catalog}
use Rattle.ss_catalog.specs.Bodies.{MayHave}
use Rattle.ss_nest.specs.Bodies.{IsPlainOf, NestedBodyReads}
use Rattle.ss_nest.proofs.bodies.read_nested_body.Goals as goal

pub read_body_in-requires-clause-is_plain : goal.read_body_in-requires-clause-is_plain
read_body_in-requires-clause-is_plain c =
    subst (λ (found : Option Catalog). IsPlainOf c.args.catalog.now (unwrap_or found c.args.catalog.now)) c.in-Some.is c.in_ok-plain.ensures

pub read_body_in-requires-in-None-clause-is_plain : goal.read_body_in-requires-in-None-clause-is_plain
read_body_in-requires-in-None-clause-is_plain c =
    subst (λ (found : Option Catalog). IsPlainOf c.args.catalog.now (unwrap_or found c.args.catalog.now)) c.in-None.is c.in_ok-plain.ensures

pub returns-in-Some-clause-may_have : goal.returns-in-Some-clause-may_have
returns-in-Some-clause-may_have c =
    let catalog = c.args.catalog.now in
    let q = c.args.procedure in
    let body = view c.args.value.now in
    if_ok (NestedBodyReads catalog q body) (λ (b : Body). MayHave catalog q b.steps) (c.a_nested_body_has_one_answer.ensures.stands catalog q body)
    c.read_body_in.result c.read_body_in.ensures.ok

pub returns-in-None-clause-may_have : goal.returns-in-None-clause-may_have
returns-in-None-clause-may_have c =
    let catalog = c.args.catalog.now in
    let q = c.args.procedure in
    let body = view c.args.value.now in
    if_ok (NestedBodyReads catalog q body) (λ (b : Body). MayHave catalog q b.steps) (c.a_nested_body_has_one_answer.ensures.stands catalog q body)
    c.read_body_in-in-None.result c.read_body_in-in-None.ensures.ok
