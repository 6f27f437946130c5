use Rattle.std.proofs.Common.{◌≡◌, ◌⊎◌, ◌∙◌, inl, inr, true, is_some, sym, subst}
use Rattle.std.proofs.lemmas.Bool.{false≢true}
use Rattle.ss_model.specs.declared.entry.Mode.TheVariants as modes
use Rattle.ss_snapshot.proofs.BodiesRead.{still}
use Rattle.ss_top.specs.declared.over.Turn.TheVariants.{Short, Failed}
use Rattle.std.proofs.Common.{Some}
use Rattle.ss_top.specs.Turns.{ClosesAgain}
use Rattle.ss_top.proofs.AgainTurns.{failed_closed, goes_on, over_closed, short_closed}
use Rattle.ss_top.proofs.over.close_again.Goals as goal
use Rattle.ss_top.proofs.over.close_again.Goals.{else-not-last-via-then-not-last+else-has_failed, else-not-last-via-else-not-last}

pub returns-in_default-clause-closes : goal.returns-in_default-clause-closes
returns-in_default-clause-closes g c = λ every limit catalog.
    subst (λ (d : g.row.D.Denot). ClosesAgain {D = g.row.D.Denot} g.D.Disk.kind modes.Strong every limit c.args.printing catalog c.args.requests.now c.args.last c.args.past c.args.place c.args.finished (Short d)) (sym c.into_disk.ensures)
    (short_closed g.D.Disk.kind every limit c.args.printing catalog c.args.requests.now c.args.last c.args.past c.args.place c.args.finished c.requires.place.0 c.requires.place.1
    c.answers_resume.ensures.resume c.answers_resume.ensures.stay c.incarnations_go_on.ensures.more c.runs_over_restarts.ensures)

pub returns-then-has_failed-clause-closes : goal.returns-then-has_failed-clause-closes
returns-then-has_failed-clause-closes g c = λ every limit catalog.
    subst (λ (d : g.row.D.Denot). ClosesAgain {D = g.row.D.Denot} g.D.Disk.kind modes.Strong every limit c.args.printing catalog c.args.requests.now c.args.last c.args.past c.args.place c.args.finished (Failed (Some (record { past = c.in-Ok.past; catalog = c.args.finished.closed.catalog })) d))
    (sym c.into_disk-then-has_failed.ensures)
    (failed_closed g.D.Disk.kind every limit c.args.printing catalog c.args.requests.now c.args.last c.args.past c.args.place c.args.finished c.requires.place.0 c.requires.place.1
    c.answers_resume.ensures.resume c.answers_resume.ensures.stay c.incarnations_go_on.ensures.more c.runs_over_restarts.ensures c.in-Ok.past c.in-Ok.ensures
    (record { aside = c.spares_aside.ensures; stand = c.a_nested_body_has_one_answer.ensures.stands; body = c.a_nested_body_has_one_answer.ensures.body; one = c.stands_for_one.ensures }) (sym c.has_failed.ensures.failed ∙ c.if-has_failed.true) c.has_failed.ensures.small)

pub returns-then-has_failed-clause-on : goal.returns-then-has_failed-clause-on
returns-then-has_failed-clause-on g c = record {
  grows = still c.args.finished.closed.catalog c.requires.own.1 c.requires.own.0;
  on = goes_on c.args.place c.args.requests.now c.args.past c.in-Ok.past c.args.finished c.args.finished.receipted c.requires.place.0 c.requires.place.1 c.requires.on c.requires.told c.requires.small c.in-Ok.ensures;
}

pub returns-clause-closes : goal.returns-clause-closes
returns-clause-closes g c = λ every limit catalog.
    let unless : (c.args.last ≡ true) ⊎ (is_some c.args.finished.log.halted ≡ true → ⊥) = elim c.else-not-last.branch [
      | else-not-last-via-then-not-last+else-has_failed w ↦ inr (λ some. false≢true (sym w.if-has_failed.false ∙ (w.has_failed.ensures.failed ∙ some)))
      | else-not-last-via-else-not-last w ↦ inl w.if-not-last.false
    ] in
    over_closed g.D.Disk.kind every limit c.args.printing catalog c.args.requests.now c.args.last c.args.past c.args.place c.args.finished c.requires.place.0 c.requires.place.1
    c.answers_resume.ensures.resume c.answers_resume.ensures.stay c.incarnations_go_on.ensures.more c.runs_over_restarts.ensures c.in-Ok.past c.in-Ok.ensures c.report_session.result c.report_session.ensures.disk
    c.report_session.ensures.as_said unless
