use Rattle.std.proofs.Common.{◌∙◌, Bool, Ok, ap, sym, subst}
use Rattle.ss_shard.proofs.CallerLemmas.{own_texts}
use Rattle.ss_shard.specs.Bodies.{texts_of}
use Rattle.ss_standing.specs.ImageForm.{bodies_of}
use Rattle.ss_snapshot.specs.Bodies.{IsFurthest}
use Rattle.ss_snapshot.proofs.OneAnswer.{of_one_text}
use Rattle.ss_snapshot.proofs.BodiesRead.{furthest_own, if_ok, own_numbers_are}
use Rattle.ss_snapshot.proofs.reading.bodies.bodies_in.Goals as goal

pub returns-then-not-bodies-clause-read : goal.returns-then-not-bodies-clause-read
returns-then-not-bodies-clause-read c =
    let catalog = c.args.catalog.now in
    let texts = ap (texts_of catalog) c.in_ok-own_numbers.ensures.own ∙ own_texts catalog in
    ap (λ (b : Bool). bodies_of b catalog c.args.bytes.now) c.if-not-bodies.true ∙ (λ k. Ok (sym texts k, c.args.bytes.now))

pub returns-then-not-bodies-clause-numbers : goal.returns-then-not-bodies-clause-numbers
returns-then-not-bodies-clause-numbers c = own_numbers_are c.args.catalog.now _ c.in_ok-own_numbers.ensures.own

pub returns-then-not-bodies-clause-furthest : goal.returns-then-not-bodies-clause-furthest
returns-then-not-bodies-clause-furthest c =
    let catalog = c.args.catalog.now in
    subst (λ (b : Bool). IsFurthest b catalog c.args.bytes.now) (sym c.if-not-bodies.true)
    (furthest_own catalog c.args.bytes.now (λ other own is. of_one_text c.a_nested_value_has_one_answer.ensures.catalog catalog other c.requires.own own (sym is)))

pub returns-in-Ok-clause-furthest : goal.returns-in-Ok-clause-furthest
returns-in-Ok-clause-furthest c =
    let new = c.learn_bodies.new.catalog in
    if_ok (IsFurthest c.args.bodies new c.args.bytes.now) c.numbers_in.result (subst (λ (b : Bool). IsFurthest b new c.args.bytes.now) (sym c.if-not-bodies.false) c.in-Ok.ensures.furthest)
