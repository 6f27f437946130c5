use Rattle.ss_model.specs.Replays.{after}
use Rattle.ss_model.specs.Settling.{pending_steps}
use Rattle.ss_run.specs.BySteps.{GoesOnBySteps, SettlesSoFar}
use Rattle.ss_run.specs.Stands.{IsAt}
use Rattle.ss_run.proofs.settle.settle.Given as goal

abbrev pub invariant-loop-procedure : goal.invariant-loop-procedure
invariant-loop-procedure g l = record {
  at : IsAt l.catalog g.O.Origin.opening l.store;
  by_steps : GoesOnBySteps l.fn.store.list l.store.list;
  far : SettlesSoFar l.catalog g.O.Origin.opening l.fn.store.list l.store.list;
}

abbrev pub decreases-loop-procedure : goal.decreases-loop-procedure
decreases-loop-procedure g l = pending_steps l.catalog (after l.catalog g.O.Origin.opening l.store.list)
