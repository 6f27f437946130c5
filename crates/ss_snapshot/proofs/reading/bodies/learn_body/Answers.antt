use Rattle.std.proofs.Common.{◌∙◌, ℕ, sym, ap, subst}
use Rattle.ss_model.specs.Accepted.{Accepted}
use Rattle.ss_model.specs.Database.{has_body}
use Rattle.ss_snapshot.specs.Own.{IsReadFromItsText}
use Rattle.ss_snapshot.proofs.OneAnswer.{of_one_text}
use Rattle.ss_snapshot.proofs.BodiesRead.{found_none, found_some, grown_by, none_has, own_added}
use Rattle.ss_snapshot.proofs.reading.bodies.learn_body.Goals as goal

pub returns-in-None-clause-none : goal.returns-in-None-clause-none
returns-in-None-clause-none c = λ same.
    let old = c.args.catalog.now in
    none_has old c.args.procedure c.args.text.now (λ other own is. of_one_text c.a_nested_value_has_one_answer.ensures.catalog old other c.requires.own own (sym is))
    (ap (λ (q : ℕ). has_body old q c.args.text.now) (sym c.from.ensures) ∙ sym c.has_body.ensures ∙ c.if-has_body.false)
    (found_none old c.args.procedure c.args.text.now _ c.in-None.is c.in_ok-nested_body_of.ensures.ok)

pub returns-in_ok-add_spare-in-Some-clause-grown :
    goal.returns-in_ok-add_spare-in-Some-clause-grown
returns-in_ok-add_spare-in-Some-clause-grown c =
    let old = c.args.catalog.now in
    let new = c.add_spare.new.catalog in
    let e = c.in_ok-add_spare-in-Some.ensures in
    grown_by old new e.same
    (subst IsReadFromItsText (sym e.added) (own_added old c.args.procedure c.args.text.now c.in-Some.body c.requires.own
    (found_some old c.args.procedure c.args.text.now c.in-Some.body _ c.in-Some.is c.in_ok-nested_body_of.ensures.ok)))
    (subst Accepted (sym e.same) (c.spares_aside.ensures old c.requires.accepted new.spares e.goes_on).accepted) e.goes_on
