use Rattle.std.proofs.Common.{length}
use Rattle.ss_snapshot.proofs.BodiesRead.{HasLearnt}
use Rattle.ss_snapshot.proofs.reading.bodies.learn_bodies.Given as goal

abbrev pub invariant-loop-procedure : goal.invariant-loop-procedure
invariant-loop-procedure l = HasLearnt (length l.fn.catalog.procedures) l.fn.catalog l.catalog l.procedure l.bytes l.rest
