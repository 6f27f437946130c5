use Rattle.std.proofs.Common.{◌≡◌, ◌∙◌, ◌⊎◌, ◌≤◌, inl, inr, ℕ, List, length, Bool, true, false, refl, ap, sym, subst, arith}
use Rattle.ss_model.specs.declared.catalog.Catalog.{Catalog}
use Rattle.ss_model.specs.Accepted.{Accepted}
use Rattle.ss_model.specs.Database.{has_body}
use Rattle.ss_snapshot.specs.Bodies.{HasNoBody}
use Rattle.ss_snapshot.specs.Own.{IsReadFromItsText, SameButSpares}
use Rattle.ss_snapshot.proofs.OneAnswer.{of_one_text}
use Rattle.ss_snapshot.proofs.BodiesRead.{found_none, found_some, grown_by, none_has, own_added}
use Rattle.ss_recover.proofs.MoreBodies.{more_added}
use Rattle.ss_recover.proofs.NoProcedure.{no_body_beyond}
use Rattle.ss_recover.proofs.filling.fill_body.Goals.{then-number-len-via-then-number-len, then-number-len-via-else-number-len+then-has_body}
use Rattle.ss_recover.proofs.filling.fill_body.Goals as goal

-- no body has the number of no procedure
beyond : (old : Catalog) (q : ℕ) (text : List ℕ) → IsReadFromItsText old → ((other : Catalog) → IsReadFromItsText other → other.text ≡ old.text → SameButSpares old other)
    → length old.procedures ≤ q → (has_body old q text ≡ true) ⊎ HasNoBody old q text
beyond old q text own one less = by (has_body old q text) refl
  where
    by : (t : Bool) → has_body old q text ≡ t → (has_body old q text ≡ true) ⊎ HasNoBody old q text
    by true is = inl is
    by false is = inr (none_has old q text one is (no_body_beyond old q text less))

pub returns-then-number-len-clause-named : goal.returns-then-number-len-clause-named
returns-then-number-len-clause-named c = elim c.then-number-len.branch [
  | then-number-len-via-then-number-len w ↦ beyond c.args.catalog.now c.args.procedure c.args.text.now c.requires.own
      (λ other own is. of_one_text c.a_nested_value_has_one_answer.ensures.catalog c.args.catalog.now other c.requires.own own (sym is))
      (omega (arith, w.if-number-len.true, c.len.ensures, c.from-number.ensures))
  | then-number-len-via-else-number-len+then-has_body w ↦ inl (ap (λ (q : ℕ). has_body c.args.catalog.now q c.args.text.now) (sym c.from-number.ensures) ∙ sym w.has_body.ensures ∙ w.if-has_body.true)
]

pub returns-in-None-clause-named : goal.returns-in-None-clause-named
returns-in-None-clause-named c =
    let old = c.args.catalog.now in
    inr (none_has old c.args.procedure c.args.text.now (λ other own is. of_one_text c.a_nested_value_has_one_answer.ensures.catalog old other c.requires.own own (sym is))
    (ap (λ (q : ℕ). has_body old q c.args.text.now) (sym c.from-number.ensures) ∙ sym c.has_body.ensures ∙ c.if-has_body.false)
    (found_none old c.args.procedure c.args.text.now _ c.in-None.is c.in_ok-nested_body_of.ensures.ok))

pub returns-in_ok-add_spare-in-Some-clause-more : goal.returns-in_ok-add_spare-in-Some-clause-more
returns-in_ok-add_spare-in-Some-clause-more c =
    let old = c.args.catalog.now in
    let new = c.add_spare.new.catalog in
    let e = c.in_ok-add_spare-in-Some.ensures in
    more_added old new c.args.procedure c.in-Some.body
    (grown_by old new e.same
    (subst IsReadFromItsText (sym e.added) (own_added old c.args.procedure c.args.text.now c.in-Some.body c.requires.own
    (found_some old c.args.procedure c.args.text.now c.in-Some.body _ c.in-Some.is c.in_ok-nested_body_of.ensures.ok)))
    (subst Accepted (sym e.same) (c.spares_aside.ensures old c.requires.accepted new.spares e.goes_on).accepted) e.goes_on)
    e.added
