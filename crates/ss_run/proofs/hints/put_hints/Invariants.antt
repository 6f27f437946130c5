use Rattle.std.proofs.Common.{◌≡◌}
use Rattle.ss_run.specs.BySteps.{AreHinted}
use Rattle.ss_run.proofs.hints.put_hints.Given as goal

abbrev pub invariant-loop-number : goal.invariant-loop-number
invariant-loop-number g l = record {
  hinted : AreHinted l.catalog l.inbox.hints;
  jobs : l.inbox.jobs ≡ l.fn.inbox.jobs;
  room : l.inbox.room ≡ l.fn.inbox.room;
}
