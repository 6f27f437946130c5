use Rattle.std.proofs.Common.{◌∙◌, ap, arith, refl, Err}
use Rattle.ss_commitlog.specs.declared.placed.Unlisted.TheVariants.{NoMemory}
use Rattle.ss_lanes.specs.Lanes.{LaneView}
use Rattle.ss_lanes.proofs.Coming.{as_before, submitted}
use Rattle.ss_lanes.proofs.Telling.{next_number}
use Rattle.ss_commitlog.proofs.CallerLemmas.{on_itself}
use Rattle.ss_lanes.proofs.lane.unsent.Goals as goal

pub answered-requires-clause-answered : goal.answered-requires-clause-answered
answered-requires-clause-answered g c = as_before g.I.Life.clients g.I.Life.first c.lane.inside.ticket c.lane.inside.due c.lane.inside.mark c.lane.inside.note c.lane.inside.answers.items c.lane.invariant

pub returns : goal.returns
returns g c = λ limit what.
    submitted g.I.Life.catalog g.I.Life.parts g.I.Life.first limit c.lane.inside.ticket c.lane.inside.due what c.lane.inside.answers c.lane.inside.note c.lane.inside.note c.args.lane c.answered.result (Err NoMemory)
    c.lane.view_is (ap (λ (l : LaneView). l.due.faults) c.lane.view_is ∙ c.requires.going) c.answered.ensures.client c.answered.ensures.start c.answered.ensures.note c.answered.ensures.due c.answered.ensures.answers c.answered.ensures.spare (on_itself g.I.Life.catalog g.I.Life.parts c.lane.inside.note) refl

pub answered-requires-clause-numbered : goal.answered-requires-clause-numbered
answered-requires-clause-numbered g c =
    let lane = c.lane.inside in
    let number = next_number lane.ticket lane.due lane.note lane.answers c.args.lane c.lane.view_is c.lane.invariant.index_is in
    let small = c.requires.numbered in
    omega arith
