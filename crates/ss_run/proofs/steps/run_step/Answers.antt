use Rattle.std.proofs.Common.{◌≡◌, ◌∙◌, ℕ, List, get_or, arith, ap, subst}
use Rattle.ss_model.specs.declared.entry.Entry.TheVariants.{Step as StepEntry}
use Rattle.ss_model.specs.Database.{batch_count}
use Rattle.ss_model.specs.Replays.{after}
use Rattle.ss_run.specs.Stands.{Joined}
use Rattle.ss_run.proofs.Entries.{if_some, joined_lowers}
use Rattle.ss_run.proofs.NextSteps.{ready_fits, ready_within}
use Rattle.ss_run.proofs.Progress.{sees}
use Rattle.ss_run.proofs.steps.run_step.Goals as goal

pub bounds-cursors-from : goal.bounds-cursors-from
bounds-cursors-from g c =
    let catalog = c.args.catalog.now in
    let many = (sees catalog c.requires.accepted g.O.Origin.opening c.args.store.now c.cursors.result.now c.requires.at c.cursors.ensures).counts_many in
    let there = ready_within catalog (after catalog g.O.Origin.opening c.args.store.now.list) c.args.procedure c.requires.ready in
    omega arith

pub list_entry-requires-clause-fits : goal.list_entry-requires-clause-fits
list_entry-requires-clause-fits g c = ready_fits c.args.catalog.now (after c.args.catalog.now g.O.Origin.opening c.args.store.now.list) c.args.procedure 0 c.requires.ready

pub returns-clause-some : goal.returns-clause-some
returns-clause-some g c =
    let catalog = c.args.catalog.now in
    let list = c.args.store.now.list in
    let new = c.list_entry.new.store.list in
    let counts = c.cursors.ensures ∙ c.requires.at.stands.shard.counts in
    let same : get_or c.cursors.result.now c.from.result 0 ≡ batch_count (after catalog g.O.Origin.opening list) c.args.procedure = rw c.from.ensures (ap (λ (ns : List ℕ). get_or ns c.args.procedure 0) counts) in
    if_some c.list_entry.result
    (
    λ place some.
    (some.0, record { joined = subst (λ (r : ℕ). Joined list new (StepEntry c.args.procedure r)) same some.1; lowers = joined_lowers catalog c.requires.accepted g.O.Origin.opening c.args.store.now.first c.requires.at.opens list new c.args.procedure _ c.list_entry.ensures.at.replays some.1 })
    ) c.list_entry.ensures.some
