use Rattle.std.proofs.Common.{◌∙◌, sym}
use Rattle.serde_json.specs.View.{view}
use Rattle.ss_lemmas.proofs.Results.{if_ok}
use Rattle.ss_catalog.specs.Bodies.{BodyReads, RefusesBody}
use Rattle.ss_nest.specs.Bodies.{NestedBodyReads, RefusesNestedBody}
use Rattle.ss_nest.proofs.PlainBodies.{if_err, plain_was_read, reads_here, refuses_here}
use Rattle.ss_nest.proofs.bodies.read_body_in.Goals as goal

pub read_body-requires-clause-was_read : goal.read_body-requires-clause-was_read
read_body-requires-clause-was_read c = plain_was_read c.args.catalog.now c.args.plain.now c.requires.is_plain c.requires.was_read

pub returns-clause-ok : goal.returns-clause-ok
returns-clause-ok c =
    let catalog = c.args.catalog.now in
    let plain = c.args.plain.now in
    let q = c.args.procedure in
    let n = c.in-Some.number in
    let body = view c.args.value.now in
    if_ok (BodyReads plain n body) (NestedBodyReads catalog q body)
    (reads_here catalog plain c.requires.is_plain q n (sym c.in_ok-number.ensures.number ∙ c.in-Some.is) c.requires.was_read body) c.read_body.result c.read_body.ensures.ok

pub returns-clause-refused : goal.returns-clause-refused
returns-clause-refused c =
    let catalog = c.args.catalog.now in
    let plain = c.args.plain.now in
    let q = c.args.procedure in
    let n = c.in-Some.number in
    let body = view c.args.value.now in
    if_err (RefusesBody plain n body) (RefusesNestedBody catalog q body)
    (refuses_here catalog plain c.requires.is_plain q n (sym c.in_ok-number.ensures.number ∙ c.in-Some.is) c.requires.was_read body) c.read_body.result c.read_body.ensures.refused
