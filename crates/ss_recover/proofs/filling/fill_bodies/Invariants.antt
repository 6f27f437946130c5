use Rattle.std.proofs.Common.{take}
use Rattle.ss_recover.specs.Loading.{AreBodies, HasMore}
use Rattle.ss_recover.proofs.filling.fill_bodies.Given as goal

abbrev pub invariant-loop-body : goal.invariant-loop-body
invariant-loop-body l = record { more : HasMore l.fn.catalog l.catalog; named : AreBodies l.catalog l.procedure (take l.body-index l.bodies) }
