use Rattle.std.proofs.Common.{take, sym, subst}
use Rattle.ss_core.specs.Theorem.{IsReachable, IsSafe, ReceiptsStay}
use Rattle.ss_core.proofs.Whole.{happen_more, happen_whole, refused_at, reachable_on, safe_after, receipts_after}
use Rattle.ss_core.proofs.run.run_events.Goals as goal

pub loop-event-preserved : goal.loop-event-preserved
loop-event-preserved c =
    happen_more c.args.core c.args.events.now c.loop-event.event-index c.event-item.result c.loop-event.core c.in-Ok.left
    (rw c.as_slice-event-items.ensures at c.loop-event-test.true) (rw c.as_slice-event-items.ensures at c.event-item.is) c.loop-event.invariant c.in-Ok.ensures.ok

pub returns-in-Err-clause-refused : goal.returns-in-Err-clause-refused
returns-in-Err-clause-refused c =
    refused_at c.args.core c.args.events.now c.loop-event.event-index c.event-item.result c.loop-event.core c.in-Err.refused
    (rw c.as_slice-event-items.ensures at c.loop-event-test.true) (rw c.as_slice-event-items.ensures at c.event-item.is) c.loop-event.invariant c.in-Err.ensures.err c.in-Err.ensures.refused

pub returns-in-Err-clause-reachable : goal.returns-in-Err-clause-reachable
returns-in-Err-clause-reachable c =
    subst IsReachable (sym c.in-Err.ensures.err) (reachable_on c.args.core (take c.loop-event.event-index c.args.events.now) c.loop-event.core c.requires c.loop-event.invariant)

pub returns-in-Err-clause-safe : goal.returns-in-Err-clause-safe
returns-in-Err-clause-safe c =
    subst IsSafe (sym c.in-Err.ensures.err) (safe_after c.args.core (take c.loop-event.event-index c.args.events.now) c.requires c.loop-event.core c.loop-event.invariant)

pub returns-in-Err-clause-receipts : goal.returns-in-Err-clause-receipts
returns-in-Err-clause-receipts c =
    subst (ReceiptsStay c.args.core) (sym c.in-Err.ensures.err) (receipts_after c.args.core (take c.loop-event.event-index c.args.events.now) c.requires c.loop-event.core c.loop-event.invariant)

pub returns-clause-ok : goal.returns-clause-ok
returns-clause-ok c =
    happen_whole c.args.core c.args.events.now c.loop-event.event-index c.loop-event.core (rw c.as_slice-event-items.ensures at c.loop-event-test.false) c.loop-event.invariant

pub returns-clause-reachable : goal.returns-clause-reachable
returns-clause-reachable c = reachable_on c.args.core (take c.loop-event.event-index c.args.events.now) c.loop-event.core c.requires c.loop-event.invariant

pub returns-clause-safe : goal.returns-clause-safe
returns-clause-safe c = safe_after c.args.core (take c.loop-event.event-index c.args.events.now) c.requires c.loop-event.core c.loop-event.invariant

pub returns-clause-receipts : goal.returns-clause-receipts
returns-clause-receipts c = receipts_after c.args.core (take c.loop-event.event-index c.args.events.now) c.requires c.loop-event.core c.loop-event.invariant
