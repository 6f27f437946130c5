use Rattle.std.proofs.Common.{◌∙◌, inr, sym}
use Rattle.ss_model.specs.Database.{batch_count}
use Rattle.ss_model.specs.Replays.{after}
use Rattle.ss_run.proofs.Entries.{last_is}
use Rattle.ss_run.proofs.NextSteps.{ready_fits}
use Rattle.ss_run.proofs.Progress.{sees}
use Rattle.ss_run.proofs.hints.run_hint.Goals as goal

pub ready-requires-clause-cursors : goal.ready-requires-clause-cursors
ready-requires-clause-cursors g c = (sees c.args.catalog.now c.requires.accepted g.O.Origin.opening c.args.store.now c.cursors.result.now c.requires.at c.cursors.ensures).counts_many

pub ready-requires-clause-streams : goal.ready-requires-clause-streams
ready-requires-clause-streams g c = (sees c.args.catalog.now c.requires.accepted g.O.Origin.opening c.args.store.now c.cursors.result.now c.requires.at c.cursors.ensures).streams_many

pub run_step-requires-clause-ready : goal.run_step-requires-clause-ready
run_step-requires-clause-ready g c =
    let seen = sees c.args.catalog.now c.requires.accepted g.O.Origin.opening c.args.store.now c.cursors.result.now c.requires.at c.cursors.ensures in
    sym (c.ready.ensures (after c.args.catalog.now g.O.Origin.opening c.args.store.now.list) seen.far) ∙ c.if-not-ready.false

pub wake_list-requires-clause-fits : goal.wake_list-requires-clause-fits
wake_list-requires-clause-fits g c =
    let catalog = c.args.catalog.now in
    let db = after catalog g.O.Origin.opening c.args.store.now.list in
    let seen = sees catalog c.requires.accepted g.O.Origin.opening c.args.store.now c.cursors.result.now c.requires.at c.cursors.ensures in
    let some = c.in-Some.ensures.some in
    let is = last_is c.args.store.now.list c.run_step.new.store.list _ c.at-listed.result.now c.in-Some.place some.1.joined.joined some.0 c.at-listed.ensures in
    rw is (ready_fits catalog db c.args.procedure (batch_count db c.args.procedure) (sym (c.ready.ensures db seen.far) ∙ c.if-not-ready.false))

pub returns-clause-ran : goal.returns-clause-ran
returns-clause-ran g c = inr (record { procedure = c.args.procedure; batch = _; joined = c.in-Some.ensures.some.1.joined; lowers = c.in-Some.ensures.some.1.lowers })
