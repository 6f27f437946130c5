use Rattle.std.proofs.Common.{rules, ◌≡◌, ◌∙◌, Ok, Err, sym, ap, subst}
use Rattle.ss_receipts.specs.declared.durable.DurableError.{DurableError}
use Rattle.ss_receipts.specs.declared.durable.DurableError.TheVariants.{NoMemory}
use Rattle.ss_lanes.specs.Lanes.{LaneView}
use Rattle.ss_engine.specs.Assured.{with_faults}
use Rattle.ss_engine.specs.Checkpoints.{AsksForCheckpoint, IsCheckpointedBehind}
use Rattle.ss_engine.proofs.Checkpoints.{asks_made, asks_none, asks_told, saw_refused, still_lane}
use Rattle.ss_engine.proofs.engine.Engine.checkpoint.Goals as goal

pub lane_of-lane-requires : goal.lane_of-lane-requires
lane_of-lane-requires g c =
    let going : c.lane.inside.due.faults ≡ 0 = ap (λ (l : LaneView). l.due.faults) c.lane.view_is ∙ c.requires.going in
    still_lane g.I.Life.catalog g.I.Life.parts g.I.Life.clients g.I.Life.first g.I.Life.limit g.I.Life.every c.lane.inside.ticket c.lane.inside.due c.lane.inside.mark c.lane.inside.note c.checkpoint_of_all-made.new.note c.meet.new.mark c.meet.new.note c.lane.inside.answers
    c.lane.invariant going c.checkpoint_of_all-made.ensures.note c.meet.ensures.mark c.meet.ensures.note c.meet.ensures.one

pub returns-in-Ok : goal.returns-in-Ok
returns-in-Ok g c =
    let going : c.lane.inside.due.faults ≡ 0 = ap (λ (l : LaneView). l.due.faults) c.lane.view_is ∙ c.requires.going in
    subst (λ (l : LaneView). AsksForCheckpoint g.I.Life.first g.I.Life.every c.args.lane l (Ok c.in-Ok.place)) (sym c.lane_of-lane.ensures)
    (asks_made g.I.Life.catalog g.I.Life.parts g.I.Life.clients g.I.Life.first g.I.Life.limit g.I.Life.every c.lane.inside.ticket c.lane.inside.due c.lane.inside.mark c.lane.inside.note c.checkpoint_of_all-made.new.note c.meet.new.mark c.meet.new.note c.lane.inside.answers
    c.lane.invariant going c.checkpoint_of_all-made.ensures.note c.meet.ensures.mark c.meet.ensures.note c.meet.ensures.one c.args.lane c.in-Ok.place c.lane.view_is c.self.invariant.checkpoints.some (subst (IsCheckpointedBehind g.I.Life.first c.lane.inside.note c.checkpoint_of_all-made.new.note) c.in-Ok.is c.checkpoint_of_all-made.ensures.answer))

pub lane_of-lane-requires-in-Err-NoMemory : goal.lane_of-lane-requires-in-Err-NoMemory
lane_of-lane-requires-in-Err-NoMemory g c =
    let going : c.lane.inside.due.faults ≡ 0 = ap (λ (l : LaneView). l.due.faults) c.lane.view_is ∙ c.requires.going in
    still_lane g.I.Life.catalog g.I.Life.parts g.I.Life.clients g.I.Life.first g.I.Life.limit g.I.Life.every c.lane.inside.ticket c.lane.inside.due c.lane.inside.mark c.lane.inside.note c.checkpoint_of_all-made.new.note c.meet.new.mark c.meet.new.note c.lane.inside.answers
    c.lane.invariant going c.checkpoint_of_all-made.ensures.note c.meet.ensures.mark c.meet.ensures.note c.meet.ensures.one

pub returns-in-Err-NoMemory : goal.returns-in-Err-NoMemory
returns-in-Err-NoMemory g c =
    let going : c.lane.inside.due.faults ≡ 0 = ap (λ (l : LaneView). l.due.faults) c.lane.view_is ∙ c.requires.going in
    subst (λ (l : LaneView). AsksForCheckpoint g.I.Life.first g.I.Life.every c.args.lane l (Err NoMemory)) (sym c.lane_of-lane-in-Err-NoMemory.ensures)
    (asks_none g.I.Life.catalog g.I.Life.parts g.I.Life.clients g.I.Life.first g.I.Life.limit g.I.Life.every c.lane.inside.ticket c.lane.inside.due c.lane.inside.mark c.lane.inside.note c.checkpoint_of_all-made.new.note c.meet.new.mark c.meet.new.note c.lane.inside.answers
    c.lane.invariant going c.checkpoint_of_all-made.ensures.note c.meet.ensures.mark c.meet.ensures.note c.meet.ensures.one c.args.lane c.lane.view_is)

pub failed-lane-requires-clause-lane : goal.failed-lane-requires-clause-lane
failed-lane-requires-clause-lane g c =
    let going : c.lane.inside.due.faults ≡ 0 = ap (λ (l : LaneView). l.due.faults) c.lane.view_is ∙ c.requires.going in
    still_lane g.I.Life.catalog g.I.Life.parts g.I.Life.clients g.I.Life.first g.I.Life.limit g.I.Life.every c.lane.inside.ticket c.lane.inside.due c.lane.inside.mark c.lane.inside.note c.checkpoint_of_all-made.new.note c.meet.new.mark c.meet.new.note c.lane.inside.answers
    c.lane.invariant going c.checkpoint_of_all-made.ensures.note c.meet.ensures.mark c.meet.ensures.note c.meet.ensures.one

pub failed-lane-requires-clause-failed : goal.failed-lane-requires-clause-failed
failed-lane-requires-clause-failed g c =
    let going : c.lane.inside.due.faults ≡ 0 = ap (λ (l : LaneView). l.due.faults) c.lane.view_is ∙ c.requires.going in
    let other : c.in-Err.refused ≡ NoMemory → ⊥ = search (rules, c.in-Err) in
    let was = subst (IsCheckpointedBehind g.I.Life.first c.lane.inside.note c.checkpoint_of_all-made.new.note) c.in-Err.is c.checkpoint_of_all-made.ensures.answer in
    saw_refused g.I.Life.catalog g.I.Life.parts g.I.Life.clients g.I.Life.first g.I.Life.limit g.I.Life.every c.lane.inside.ticket c.lane.inside.due c.lane.inside.mark c.lane.inside.note c.checkpoint_of_all-made.new.note c.meet.new.mark c.meet.new.note c.lane.inside.answers
    c.lane.invariant going c.checkpoint_of_all-made.ensures.note c.meet.ensures.mark c.meet.ensures.note c.meet.ensures.one c.in-Err.refused other was

pub returns-in-Err : goal.returns-in-Err
returns-in-Err g c =
    let going : c.lane.inside.due.faults ≡ 0 = ap (λ (l : LaneView). l.due.faults) c.lane.view_is ∙ c.requires.going in
    let other : c.in-Err.refused ≡ NoMemory → ⊥ = search (rules, c.in-Err) in
    let faults = c.failed-lane.result.1 in
    let asked = asks_told g.I.Life.catalog g.I.Life.parts g.I.Life.clients g.I.Life.first g.I.Life.limit g.I.Life.every c.lane.inside.ticket c.lane.inside.due c.lane.inside.mark c.lane.inside.note c.checkpoint_of_all-made.new.note c.meet.new.mark c.meet.new.note c.lane.inside.answers
    c.lane.invariant going c.checkpoint_of_all-made.ensures.note c.meet.ensures.mark c.meet.ensures.note c.meet.ensures.one faults c.args.lane c.in-Err.refused c.lane.view_is c.failed-lane.ensures.some other in
    subst (λ (e : DurableError). AsksForCheckpoint g.I.Life.first g.I.Life.every c.args.lane c.failed-lane.result.0 (Err e)) (sym c.with_faults.ensures)
    (subst (λ (l : LaneView). AsksForCheckpoint g.I.Life.first g.I.Life.every c.args.lane l (Err (with_faults faults c.in-Err.refused))) (sym c.failed-lane.ensures.lane) asked)
