use Rattle.std.proofs.Common.{rules, ◌≡◌, Ok, Err, refl, sym, ap, subst, arith}
use Rattle.ss_receipts.specs.declared.durable.DurableError.{DurableError}
use Rattle.ss_receipts.specs.declared.durable.DurableError.TheVariants.{NoMemory}
use Rattle.ss_receipts.specs.Durable.{IsDurable}
use Rattle.ss_lanes.specs.declared.due.Due.{Due}
use Rattle.ss_engine.specs.Assured.{AsksForReceipt, with_faults}
use Rattle.ss_lanes.specs.Lanes.{LaneView, IsLane}
use Rattle.ss_lanes.proofs.CallerLemmas.{covers_all, lane_met, lane_receipted, receipt_seen}
use Rattle.ss_engine.proofs.LanesAssured.{asks_again, asks_failed, asks_met, failed_so, saw_faults}
use Rattle.ss_engine.proofs.engine.Engine.ensure_durable.Goals as goal

pub returns-then-faults-ne0 : goal.returns-then-faults-ne0
returns-then-faults-ne0 g c = asks_again g.I.Life.first c.args.lane c.faults-faults.result c.faults-faults.ensures c.if-faults-ne0.true

pub lane_of-lane-requires : goal.lane_of-lane-requires
lane_of-lane-requires g c =
    let going : c.lane.inside.due.faults ≡ 0 = (let a = c.if-faults-ne0.false in let b = c.faults-faults.ensures in let v = ap (λ (l : LaneView). l.due.faults) c.lane.view_is in omega arith) in
    let durable : IsDurable c.lane.inside.due.above c.ensure_durable-answer.new.mark.count c.ensure_durable-answer.new.mark.faults (Ok c.in-Ok.receipt) = subst (IsDurable c.lane.inside.due.above c.ensure_durable-answer.new.mark.count c.ensure_durable-answer.new.mark.faults) c.in-Ok.is c.ensure_durable-answer.ensures.answer in
    subst (λ (d : Due). IsLane g.I.Life.clients g.I.Life.first c.lane.inside.ticket d c.meet.new.mark c.meet.new.note c.lane.inside.answers.items) (sym c.receipted-due.ensures)
    (lane_receipted g.I.Life.catalog g.I.Life.parts g.I.Life.clients g.I.Life.first g.I.Life.limit c.lane.inside.ticket c.lane.inside.due c.lane.inside.mark c.lane.inside.note c.ensure_durable-answer.new.mark c.meet.new.mark c.meet.new.note c.lane.inside.answers
    c.lane.invariant going c.ensure_durable-answer.ensures.mark c.meet.ensures.mark c.meet.ensures.note c.meet.ensures.one c.in-Ok.receipt.count durable.0 durable.1)

pub returns-in-Ok : goal.returns-in-Ok
returns-in-Ok g c =
    let going : c.lane.inside.due.faults ≡ 0 = (let a = c.if-faults-ne0.false in let b = c.faults-faults.ensures in let v = ap (λ (l : LaneView). l.due.faults) c.lane.view_is in omega arith) in
    let durable : IsDurable c.lane.inside.due.above c.ensure_durable-answer.new.mark.count c.ensure_durable-answer.new.mark.faults (Ok c.in-Ok.receipt) = subst (IsDurable c.lane.inside.due.above c.ensure_durable-answer.new.mark.count c.ensure_durable-answer.new.mark.faults) c.in-Ok.is c.ensure_durable-answer.ensures.answer in
    subst (λ (l : LaneView). AsksForReceipt g.I.Life.first c.args.lane l (Ok c.in-Ok.receipt)) (sym c.lane_of-lane.ensures)
    (asks_met g.I.Life.catalog g.I.Life.parts g.I.Life.clients g.I.Life.first g.I.Life.limit c.lane.inside.ticket c.lane.inside.due c.lane.inside.mark c.lane.inside.note c.ensure_durable-answer.new.mark c.meet.new.mark c.meet.new.note c.lane.inside.answers
    c.lane.invariant going c.ensure_durable-answer.ensures.mark c.meet.ensures.mark c.meet.ensures.note c.meet.ensures.one c.receipted-due.result c.args.lane (Ok c.in-Ok.receipt) c.lane.view_is (
      covers_all g.I.Life.catalog g.I.Life.parts g.I.Life.clients g.I.Life.first g.I.Life.limit c.lane.inside.ticket c.lane.inside.due c.lane.inside.mark c.lane.inside.note c.ensure_durable-answer.new.mark c.meet.new.mark c.meet.new.note c.lane.inside.answers
          c.lane.invariant going c.ensure_durable-answer.ensures.mark c.meet.ensures.mark c.meet.ensures.note c.meet.ensures.one c.in-Ok.receipt.count durable.0 durable.1,
      receipt_seen g.I.Life.catalog g.I.Life.parts g.I.Life.clients g.I.Life.first g.I.Life.limit c.lane.inside.ticket c.lane.inside.due c.lane.inside.mark c.lane.inside.note c.ensure_durable-answer.new.mark c.meet.new.mark c.meet.new.note c.lane.inside.answers
          c.lane.invariant going c.ensure_durable-answer.ensures.mark c.meet.ensures.mark c.meet.ensures.note c.meet.ensures.one c.in-Ok.receipt.count durable.0 durable.1,
      going,
      c.receipted-due.ensures,
    ))

pub lane_of-lane-requires-in-Err-NoMemory : goal.lane_of-lane-requires-in-Err-NoMemory
lane_of-lane-requires-in-Err-NoMemory g c =
    let going : c.lane.inside.due.faults ≡ 0 = (let a = c.if-faults-ne0.false in let b = c.faults-faults.ensures in let v = ap (λ (l : LaneView). l.due.faults) c.lane.view_is in omega arith) in
    lane_met g.I.Life.catalog g.I.Life.parts g.I.Life.clients g.I.Life.first g.I.Life.limit c.lane.inside.ticket c.lane.inside.due c.lane.inside.mark c.lane.inside.note c.ensure_durable-answer.new.mark c.meet.new.mark c.meet.new.note c.lane.inside.answers
    c.lane.invariant going c.ensure_durable-answer.ensures.mark c.meet.ensures.mark c.meet.ensures.note c.meet.ensures.one

pub returns-in-Err-NoMemory : goal.returns-in-Err-NoMemory
returns-in-Err-NoMemory g c =
    let going : c.lane.inside.due.faults ≡ 0 = (let a = c.if-faults-ne0.false in let b = c.faults-faults.ensures in let v = ap (λ (l : LaneView). l.due.faults) c.lane.view_is in omega arith) in
    subst (λ (l : LaneView). AsksForReceipt g.I.Life.first c.args.lane l (Err NoMemory)) (sym c.lane_of-lane-in-Err-NoMemory.ensures)
    (asks_met g.I.Life.catalog g.I.Life.parts g.I.Life.clients g.I.Life.first g.I.Life.limit c.lane.inside.ticket c.lane.inside.due c.lane.inside.mark c.lane.inside.note c.ensure_durable-answer.new.mark c.meet.new.mark c.meet.new.note c.lane.inside.answers
    c.lane.invariant going c.ensure_durable-answer.ensures.mark c.meet.ensures.mark c.meet.ensures.note c.meet.ensures.one c.lane.inside.due c.args.lane (Err NoMemory) c.lane.view_is (going, refl))

pub failed-lane-requires-clause-lane : goal.failed-lane-requires-clause-lane
failed-lane-requires-clause-lane g c =
    let going : c.lane.inside.due.faults ≡ 0 = (let a = c.if-faults-ne0.false in let b = c.faults-faults.ensures in let v = ap (λ (l : LaneView). l.due.faults) c.lane.view_is in omega arith) in
    lane_met g.I.Life.catalog g.I.Life.parts g.I.Life.clients g.I.Life.first g.I.Life.limit c.lane.inside.ticket c.lane.inside.due c.lane.inside.mark c.lane.inside.note c.ensure_durable-answer.new.mark c.meet.new.mark c.meet.new.note c.lane.inside.answers
    c.lane.invariant going c.ensure_durable-answer.ensures.mark c.meet.ensures.mark c.meet.ensures.note c.meet.ensures.one

pub failed-lane-requires-clause-failed : goal.failed-lane-requires-clause-failed
failed-lane-requires-clause-failed g c =
    let going : c.lane.inside.due.faults ≡ 0 = (let a = c.if-faults-ne0.false in let b = c.faults-faults.ensures in let v = ap (λ (l : LaneView). l.due.faults) c.lane.view_is in omega arith) in
    let other : c.in-Err.refused ≡ NoMemory → ⊥ = search (rules, c.in-Err) in
    let durable : IsDurable c.lane.inside.due.above c.ensure_durable-answer.new.mark.count c.ensure_durable-answer.new.mark.faults (Err c.in-Err.refused) = subst (IsDurable c.lane.inside.due.above c.ensure_durable-answer.new.mark.count c.ensure_durable-answer.new.mark.faults) c.in-Err.is c.ensure_durable-answer.ensures.answer in
    saw_faults g.I.Life.catalog g.I.Life.parts g.I.Life.clients g.I.Life.first g.I.Life.limit c.lane.inside.ticket c.lane.inside.due c.lane.inside.mark c.lane.inside.note c.ensure_durable-answer.new.mark c.meet.new.mark c.meet.new.note c.lane.inside.answers
    c.lane.invariant going c.ensure_durable-answer.ensures.mark c.meet.ensures.mark c.meet.ensures.note c.meet.ensures.one
    (failed_so c.lane.inside.due.above c.ensure_durable-answer.new.mark.count c.ensure_durable-answer.new.mark.faults c.in-Err.refused other durable)

pub returns-in-Err : goal.returns-in-Err
returns-in-Err g c =
    let going : c.lane.inside.due.faults ≡ 0 = (let a = c.if-faults-ne0.false in let b = c.faults-faults.ensures in let v = ap (λ (l : LaneView). l.due.faults) c.lane.view_is in omega arith) in
    let other : c.in-Err.refused ≡ NoMemory → ⊥ = search (rules, c.in-Err) in
    let faults = c.failed-lane.result.1 in
    let asked = asks_failed g.I.Life.catalog g.I.Life.parts g.I.Life.clients g.I.Life.first g.I.Life.limit c.lane.inside.ticket c.lane.inside.due c.lane.inside.mark c.lane.inside.note c.ensure_durable-answer.new.mark c.meet.new.mark c.meet.new.note c.lane.inside.answers
    c.lane.invariant going c.ensure_durable-answer.ensures.mark c.meet.ensures.mark c.meet.ensures.note c.meet.ensures.one faults c.args.lane c.in-Err.refused c.lane.view_is c.failed-lane.ensures.some other in
    subst (λ (e : DurableError). AsksForReceipt g.I.Life.first c.args.lane c.failed-lane.result.0 (Err e)) (sym c.with_faults.ensures)
    (subst (λ (l : LaneView). AsksForReceipt g.I.Life.first c.args.lane l (Err (with_faults faults c.in-Err.refused))) (sym c.failed-lane.ensures.lane) asked)
