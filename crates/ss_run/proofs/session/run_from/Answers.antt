use Rattle.ss_model.specs.Replays.{after}
use Rattle.ss_model_laws.proofs.CallerLemmas.{replays_orders, whole_after}
use Rattle.ss_run.proofs.Answering.{answered_on}
use Rattle.ss_run.proofs.RequestEntries.{in_order_on}
use Rattle.ss_run.proofs.session.run_from.Goals as goal

pub returns-clause-ok : goal.returns-clause-ok
returns-clause-ok g c = rw c.into_parts-database.ensures.list c.settle.ensures.at.replays

pub returns-clause-orders : goal.returns-clause-orders
returns-clause-orders g c =
    let catalog = c.args.catalog.now in
    let at = c.settle.ensures.at in
    rw c.into_parts-database.ensures.list (replays_orders catalog c.requires.accepted.structure.streams.wired g.O.Origin.opening _ at.opens.whole.in_step.matched at.replays)

pub returns-clause-in_order : goal.returns-clause-in_order
returns-clause-in_order g c = rw c.into_parts-database.ensures.list (in_order_on c.args.requests.now c.serve_all-answers.new.store.list c.settle.new.store.list c.settle.ensures.by_steps c.serve_all-answers.ensures.in_order)

pub returns-clause-answered : goal.returns-clause-answered
returns-clause-answered g c =
    rw c.into_parts-database.ensures.list (answered_on c.args.requests.now c.serve_all-answers.new.store.list c.settle.new.store.list c.serve_all-answers.result c.settle.ensures.by_steps c.serve_all-answers.ensures.answered)

pub returns-clause-whole : goal.returns-clause-whole
returns-clause-whole g c =
    let at = c.settle.ensures.at in
    rw c.into_parts-database.ensures.database (record {
      committed = at.committed;
      number = at.number;
      stands = (after c.args.catalog.now g.O.Origin.opening c.settle.new.store.list, at.stands, whole_after c.args.catalog.now c.requires.accepted g.O.Origin.opening c.settle.new.store.list at.opens.whole);
    })

pub returns-clause-stands : goal.returns-clause-stands
returns-clause-stands g c = rw (c.into_parts-database.ensures.list, c.into_parts-database.ensures.database) c.settle.ensures.at.stands
