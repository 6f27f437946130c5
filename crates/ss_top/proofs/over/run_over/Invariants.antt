use Rattle.std.proofs.Common.{◌≤◌}
use Rattle.std.specs.Prelude.{IfSome}
use Rattle.ss_top.specs.Turns.{HasCome, MayGoOnFrom}
use Rattle.ss_top.proofs.over.run_over.Given as goal

-- each opening so far has ended by a fault of the disk
abbrev pub invariant-loop : goal.invariant-loop
invariant-loop g l = record {
  within : l.counter ≤ l.restarts;
  has : HasCome {D = g.row.D.Denot} g.D.Disk.kind l.limit l.catalog l.requests l.counter l.fn.disk l.left l.begun;
  on : IfSome l.begun (MayGoOnFrom l.catalog l.requests);
}
