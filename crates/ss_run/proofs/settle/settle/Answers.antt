use Rattle.std.proofs.Common.{◌∙◌, sym}
use Rattle.ss_model_laws.proofs.CallerLemmas.{at_rest, next_is_ready}
use Rattle.ss_model.specs.Replays.{after}
use Rattle.ss_run.proofs.BySteps.{none_yet, step_more}
use Rattle.ss_run.proofs.Entries.{in_step}
use Rattle.ss_run.proofs.Progress.{sees}
use Rattle.ss_run.proofs.SettledLists.{all_settled, none_settled, one_settled}
use Rattle.ss_run.proofs.settle.settle.Goals as goal

pub loop-procedure-init : goal.loop-procedure-init
loop-procedure-init g c = record { at = c.requires.at; by_steps = none_yet c.args.store.now.list; far = none_settled c.args.catalog.now g.O.Origin.opening c.args.store.now.list }

pub next_ranked-requires-clause-cursors : goal.next_ranked-requires-clause-cursors
next_ranked-requires-clause-cursors g c =
    (sees c.args.catalog.now c.requires.accepted g.O.Origin.opening c.loop-procedure.store c.cursors.result.now c.loop-procedure.invariant.at c.cursors.ensures).counts_many

pub next_ranked-requires-clause-streams : goal.next_ranked-requires-clause-streams
next_ranked-requires-clause-streams g c =
    (sees c.args.catalog.now c.requires.accepted g.O.Origin.opening c.loop-procedure.store c.cursors.result.now c.loop-procedure.invariant.at c.cursors.ensures).streams_many

pub run_step-requires-clause-ready : goal.run_step-requires-clause-ready
run_step-requires-clause-ready g c =
    let catalog = c.args.catalog.now in
    let db = after catalog g.O.Origin.opening c.loop-procedure.store.list in
    let seen = sees catalog c.requires.accepted g.O.Origin.opening c.loop-procedure.store c.cursors.result.now c.loop-procedure.invariant.at c.cursors.ensures in
    (next_is_ready catalog db).some c.in-Some.procedure (sym (c.next_ranked.ensures.next db seen.far) ∙ c.in-Some.is)

pub loop-procedure-preserved : goal.loop-procedure-preserved
loop-procedure-preserved g c =
    let catalog = c.args.catalog.now in
    let list = c.args.store.now.list in
    let old = c.loop-procedure.store.list in
    let new = c.run_step.new.store.list in
    let db = after catalog g.O.Origin.opening old in
    let seen = sees catalog c.requires.accepted g.O.Origin.opening c.loop-procedure.store c.cursors.result.now c.loop-procedure.invariant.at c.cursors.ensures in
    let joined = c.in-Some-run_step.ensures.some.1.joined in
    record {
      at = c.run_step.ensures.at;
      by_steps = step_more list old new c.in-Some.procedure _ c.loop-procedure.invariant.by_steps joined;
      far = one_settled catalog g.O.Origin.opening list old c.loop-procedure.invariant.far c.in-Some.procedure new (sym (c.next_ranked.ensures.next db seen.far) ∙ c.in-Some.is) joined;
    }

pub returns-clause-ok : goal.returns-clause-ok
returns-clause-ok g c =
    let catalog = c.args.catalog.now in
    let seen = sees catalog c.requires.accepted g.O.Origin.opening c.loop-procedure.store c.cursors.result.now c.loop-procedure.invariant.at c.cursors.ensures in
    all_settled catalog g.O.Origin.opening c.args.store.now.list c.loop-procedure.store.list c.loop-procedure.invariant.far (sym (c.next_ranked.ensures.next (after catalog g.O.Origin.opening c.loop-procedure.store.list) seen.far) ∙ c.in_default.is)

pub returns-clause-drained : goal.returns-clause-drained
returns-clause-drained g c =
    let catalog = c.args.catalog.now in
    let db = after catalog g.O.Origin.opening c.loop-procedure.store.list in
    let seen = sees catalog c.requires.accepted g.O.Origin.opening c.loop-procedure.store c.cursors.result.now c.loop-procedure.invariant.at c.cursors.ensures in
    (at_rest catalog c.requires.accepted db (in_step catalog c.requires.accepted g.O.Origin.opening c.loop-procedure.store.first c.loop-procedure.invariant.at.opens c.loop-procedure.store.list)).drained.1
    ((next_is_ready catalog db).none (sym (c.next_ranked.ensures.next db seen.far) ∙ c.in_default.is))
