use Rattle.std.specs.Prelude.{Result, Ok, Err, IfErr}
use Rattle.serde_json.specs.View.{view}
use Rattle.ss_lemmas.proofs.Results.{if_ok}
use Rattle.ss_model.specs.declared.catalog.Body.{Body}
use Rattle.ss_catalog.specs.declared.error.CatalogError.{CatalogError}
use Rattle.ss_catalog.specs.Reads.{Refuses}
use Rattle.ss_catalog.specs.Bodies.{with_body_in, BodyReads, RefusesBody, MayHave}
use Rattle.ss_catalog.proofs.bodies.read_body.Goals as goal

if_err : (P Q : CatalogError → Type 0) → ((e : CatalogError) → P e → Q e) → (r : Result Body CatalogError) → IfErr r P → IfErr r Q
if_err P Q so (Ok b) h = tt
if_err P Q so (Err e) h = so e h

pub returns : goal.returns
returns c =
    let catalog = c.args.catalog.now in
    let q = c.args.procedure in
    let body = view c.args.value.now in
    let d = c.requires.was_read.0 in
    let is = c.requires.was_read.1 in
    let reads = c.body_in_place.ensures.ok d is in
    record {
      ok = reads;
      may_have = if_ok (BodyReads catalog q body) (λ (b : Body). MayHave catalog q b.steps) (λ b h. c.a_body_has_one_answer.ensures.stands catalog q body b h) c.body_in_place.result reads;
      refused = if_err (Refuses (with_body_in q body d)) (RefusesBody catalog q body) (λ e h. (d, is, h)) c.body_in_place.result (c.body_in_place.ensures.refused d is);
    }
