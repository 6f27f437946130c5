use Rattle.std.proofs.Common.{◌≤◌, take}
use Rattle.ss_engine.specs.Sessions.{AreOfClients}
use Rattle.ss_top.proofs.session.client_count.Given as goal

abbrev pub invariant-loop-request : goal.invariant-loop-request
invariant-loop-request l = record { some : 1 ≤ l.count; few : l.count ≤ 8; below : AreOfClients l.count (take l.request-index l.requests) }
