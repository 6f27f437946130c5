use Rattle.std.proofs.Common.{◌∙◌, sym}
use Rattle.ss_lemmas.proofs.Results.{if_ok}
use Rattle.ss_catalog.specs.Bodies.{IsBodyIfAny}
use Rattle.ss_nest.specs.Bodies.{IsNestedBodyIfAny}
use Rattle.ss_nest.proofs.PlainBodies.{plain_was_read, text_here, no_text_here}
use Rattle.ss_nest.proofs.bodies.body_of_in.Goals as goal

pub body_of-requires-clause-was_read : goal.body_of-requires-clause-was_read
body_of-requires-clause-was_read c = plain_was_read c.args.catalog.now c.args.plain.now c.requires.is_plain c.requires.was_read

pub returns-in_default : goal.returns-in_default
returns-in_default c =
    no_text_here c.args.catalog.now c.args.plain.now c.requires.is_plain c.args.procedure c.args.text.now (sym c.in_ok-number.ensures.number ∙ c.in_default.is)

pub returns : goal.returns
returns c =
    let catalog = c.args.catalog.now in
    let plain = c.args.plain.now in
    let q = c.args.procedure in
    let n = c.in-Some.number in
    let text = c.args.text.now in
    if_ok (IsBodyIfAny plain n text) (IsNestedBodyIfAny catalog q text)
    (text_here catalog plain c.requires.is_plain q n (sym c.in_ok-number.ensures.number ∙ c.in-Some.is) c.requires.was_read text) c.body_of.result c.body_of.ensures.ok
