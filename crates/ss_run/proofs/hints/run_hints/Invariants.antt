use Rattle.std.proofs.Common.{◌≡◌, ◌*◌, ◌+◌, [], length}
use Rattle.ss_model.specs.Replays.{after}
use Rattle.ss_model.specs.Settling.{pending_steps}
use Rattle.ss_run.specs.BySteps.{AreHinted, GoesOnBySteps}
use Rattle.ss_run.specs.Stands.{IsAt}
use Rattle.ss_run.proofs.hints.run_hints.Given as goal

abbrev pub invariant-loop-work : goal.invariant-loop-work
invariant-loop-work g l = record {
  at : IsAt l.catalog g.O.Origin.opening l.store;
  by_steps : GoesOnBySteps l.fn.store.list l.store.list;
  hinted : AreHinted l.catalog l.inbox.hints;
  jobs : l.inbox.jobs ≡ [];
  room : l.inbox.room ≡ l.fn.inbox.room;
}

abbrev pub decreases-loop-work : goal.decreases-loop-work
decreases-loop-work g l = pending_steps l.catalog (after l.catalog g.O.Origin.opening l.store.list) * 66 + length l.inbox.hints
