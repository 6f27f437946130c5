use Rattle.std.proofs.Common.{◌∙◌, Some, None, refl, ap, subst}
use Rattle.ss_audit_laws.specs.Checks.{turns_behind}
use Rattle.ss_audit.specs.Clients.{number_of}
use Rattle.ss_audit.specs.Running.{IsMeant, RanAs}
use Rattle.ss_audit.proofs.Running.{entry_so}
use Rattle.ss_audit.proofs.entries.run_line.Goals as goal

pub returns-in_default-clause-broken : goal.returns-in_default-clause-broken
returns-in_default-clause-broken g c = λ d on.
    let catalog = c.args.catalog.now in
    let requests = c.args.asked.now.requests.now in
    let turns = number_of c.args.behind.now.turns in
    let line = c.args.line.now in
    (entry_so catalog requests turns line d c.args.place None (subst (IsMeant catalog requests turns line) c.in_default.is c.in_ok-about.ensures), refl)

pub returns-then-not-told-clause-broken : goal.returns-then-not-told-clause-broken
returns-then-not-told-clause-broken g c = λ d on.
    let catalog = c.args.catalog.now in
    let requests = c.args.asked.now.requests.now in
    let turns = number_of c.args.behind.now.turns in
    let line = c.args.line.now in
    let means = subst (IsMeant catalog requests turns line) c.in-Some.is c.in_ok-about.ensures in (
      entry_so catalog requests turns line d c.args.place (Some c.in-Some.entry) means.0
          ∙ subst (RanAs catalog d c.args.place c.in-Some.entry line c.runs_as.new.database) c.if-not-told.true (c.in_ok-told.ensures.ran d on),
      refl,
    )

pub returns-clause-ran : goal.returns-clause-ran
returns-clause-ran g c = λ d on.
    let catalog = c.args.catalog.now in
    let requests = c.args.asked.now.requests.now in
    let turns = number_of c.args.behind.now.turns in
    let line = c.args.line.now in
    let means = subst (IsMeant catalog requests turns line) c.in-Some.is c.in_ok-about.ensures in
    let ran = subst (RanAs catalog d c.args.place c.in-Some.entry line c.runs_as.new.database) c.if-not-told.false (c.in_ok-told.ensures.ran d on) in
    record {
      entry = c.in-Some.entry;
      is = entry_so catalog requests turns line d c.args.place (Some c.in-Some.entry) means.0 ∙ ran.0;
      turns = c.in_ok-note_turn.ensures ∙ ap (turns_behind turns) means.1;
      on = ran.1;
    }
