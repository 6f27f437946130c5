use Rattle.std.proofs.Common.{rules, ◌≡◌, ◌⊎◌, ◌∙◌, inl, inr, true, is_some, ap, sym, subst, arith}
use Rattle.std.proofs.lemmas.Bool.{false≢true}
use Rattle.ss_model.specs.declared.entry.Mode.{Mode}
use Rattle.ss_model.specs.declared.entry.Mode.TheVariants as modes
use Rattle.ss_snapshot.specs.Bodies.{GrowsTo}
use Rattle.ss_snapshot.proofs.BodiesRead.{still}
use Rattle.ss_recover.specs.Recovering.{recovery_of}
use Rattle.ss_top.specs.declared.over.Turn.{Turn}
use Rattle.ss_top.specs.declared.over.Turn.TheVariants.{Short}
use Rattle.ss_top.specs.Turns.{LeavesToGoOn, ServesNew}
use Rattle.ss_top.proofs.NewTurns.{failed_new, goes_on_new, log_mode, over_new, ran_in, short_new}
use Rattle.ss_top.proofs.over.serve_new.Goals as goal
use Rattle.ss_top.proofs.over.serve_new.Goals.{then-not-last+else-has_failed, else-not-last}

pub run_recovered-requires : goal.run_recovered-requires
run_recovered-requires g c κs within =
    (search (rules, within), (search (rules, within), (search (rules, within), (search (rules, c.type_bounds.send-D), (search (rules, c.type_bounds.sync-G), (search (rules, c.type_bounds.sync-R), (c.requires.own.0, (record { mode = c.requires.goes_on.0; goes_on = c.requires.goes_on.1; had_again = ap (λ (m : Mode). recovery_of g.D.Disk.kind m c.args.recovered) (sym (log_mode g.D.Disk.kind c.requires.goes_on.0 c.args.partitions c.args.recovered c.requires.goes_on.1)) }, (c.requires.fit, (λ client. omega arith, (c.requires.partitions, c.requires.every)))))))))))

pub returns-in-Ok-clause-new : goal.returns-in-Ok-clause-new
returns-in-Ok-clause-new g c = λ mode goes.
    let kind = g.D.Disk.kind in
    let of_log = log_mode kind mode c.args.partitions c.args.recovered goes in
    let strong : mode ≡ modes.Strong = elim c.requires.goes_on.2 [
      | inl all ↦ absurd (false≢true (sym c.if-not-last.true ∙ all))
      | inr is ↦ sym of_log ∙ (log_mode kind c.requires.goes_on.0 c.args.partitions c.args.recovered c.requires.goes_on.1 ∙ is)
    ] in
    let ran = ran_in kind mode c.args.every c.args.limit c.args.requests.now c.args.recovered c.args.partitions goes c.in-Ok.finished c.in-Ok.ensures.ran in
    subst (λ (turn : Turn g.row.D.Denot). ServesNew {D = g.row.D.Denot} g.D.Disk.kind mode c.args.every c.args.limit c.args.printing c.args.recovered.catalog c.args.requests.now c.args.last c.args.recovered turn) (sym c.failed.ensures)
    (failed_new kind mode c.args.every c.args.limit c.args.printing c.args.requests.now c.args.last c.args.recovered c.args.partitions strong c.requires.own goes c.in-Ok.finished ran
    (record { aside = c.spares_aside.ensures; stand = c.a_nested_body_has_one_answer.ensures.stands; body = c.a_nested_body_has_one_answer.ensures.body; one = c.stands_for_one.ensures })
    c.incarnations_go_on.ensures.first (sym c.has_failed.ensures.failed ∙ c.if-has_failed.true) c.has_failed.ensures.small)

pub returns-in-Ok-2-clause-new : goal.returns-in-Ok-2-clause-new
returns-in-Ok-2-clause-new g c = λ mode goes.
    let ran = ran_in g.D.Disk.kind mode c.args.every c.args.limit c.args.requests.now c.args.recovered c.args.partitions goes c.in-Ok.finished c.in-Ok.ensures.ran in
    let unless : (c.args.last ≡ true) ⊎ (is_some c.in-Ok.finished.log.halted ≡ true → ⊥) = elim c.if-not-last.branch [
      | then-not-last+else-has_failed w ↦ inr (λ some. false≢true (sym w.if-has_failed.false ∙ (w.has_failed.ensures.failed ∙ some)))
      | else-not-last w ↦ inl w.if-not-last.false
    ] in
    over_new g.D.Disk.kind mode c.args.every c.args.limit c.args.printing c.args.requests.now c.args.last c.args.recovered c.args.partitions c.requires.own goes c.in-Ok.finished ran
    c.report_session.result c.report_session.ensures.disk c.report_session.ensures.finished c.report_session.ensures.told c.report_session.ensures.as_said unless

pub returns-in-Err-clause-new : goal.returns-in-Err-clause-new
returns-in-Err-clause-new g c = λ mode goes.
    subst (λ (d : g.row.D.Denot). ServesNew {D = g.row.D.Denot} g.D.Disk.kind mode c.args.every c.args.limit c.args.printing c.args.recovered.catalog c.args.requests.now c.args.last c.args.recovered (Short d)) (sym c.in-Err.ensures.unstarted)
    (short_new g.D.Disk.kind mode c.args.every c.args.limit c.args.printing c.args.requests.now c.args.last c.args.recovered)

pub returns-in-Ok-clause-on : goal.returns-in-Ok-clause-on
returns-in-Ok-clause-on g c =
    let mode = c.requires.goes_on.0 in
    let ran = ran_in g.D.Disk.kind mode c.args.every c.args.limit c.args.requests.now c.args.recovered c.args.partitions c.requires.goes_on.1 c.in-Ok.finished c.in-Ok.ensures.ran in
    subst (λ (turn : Turn g.row.D.Denot). LeavesToGoOn {D = g.row.D.Denot} c.args.recovered.catalog c.args.requests.now turn) (sym c.failed.ensures) (record {
      on = goes_on_new g.D.Disk.kind mode c.args.every c.args.limit c.args.printing c.args.requests.now c.args.last c.args.recovered c.args.partitions c.requires.own c.requires.goes_on.1 c.in-Ok.finished ran;
      grows = subst (GrowsTo c.args.recovered.catalog) (sym ran.1.ends.run.catalog_is) (still c.args.recovered.catalog c.requires.own.1 c.requires.own.0);
    })
