use Rattle.std.proofs.Common.{subst}
use Rattle.std.proofs.lemmas.Result.{IfOk-weaker}
use Rattle.ss_audit.specs.Running.{HasOutcome}
use Rattle.ss_audit.proofs.Running.{prints, runs_nothing}
use Rattle.ss_audit.proofs.entries.runs_as.Goals as goal

pub run_entry-requires-clause-on : goal.run_entry-requires-clause-on
run_entry-requires-clause-on g c = (c.requires.on.0, c.args.place, c.requires.few, c.requires.on.1)

pub returns-in-Some-clause-ran : goal.returns-in-Some-clause-ran
returns-in-Some-clause-ran g c = IfOk-weaker c.is_line_of.result _ _
    (λ is told d on.
    let catalog = c.args.catalog.now in
    let new = c.run_entry.new.database in
    let ran = subst (HasOutcome catalog d c.args.place c.args.entry new) c.in-Some.is (c.in_ok-ran.ensures.outcome d c.args.place c.requires.few on) in
    prints catalog d c.args.place c.args.line.now c.args.entry new c.in-Some.outcome is ran told)
    c.is_line_of.ensures

pub returns-in-None-clause-ran : goal.returns-in-None-clause-ran
returns-in-None-clause-ran g c = λ d on.
    let catalog = c.args.catalog.now in
    let new = c.run_entry.new.database in
    runs_nothing catalog d c.args.place c.args.line.now c.args.entry new (subst (HasOutcome catalog d c.args.place c.args.entry new) c.in-None.is (c.in_ok-ran.ensures.outcome d c.args.place c.requires.few on))
