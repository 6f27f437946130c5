use Rattle.ss_snapshot.proofs.BodiesRead.{AreNumbers}
use Rattle.ss_snapshot.proofs.reading.bodies.numbers_in.Given as goal

abbrev pub invariant-loop-procedure : goal.invariant-loop-procedure
invariant-loop-procedure l = AreNumbers l.catalog l.procedure l.numbers l.bytes l.rest
