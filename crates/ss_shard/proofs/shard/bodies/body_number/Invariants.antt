use Rattle.ss_model.specs.Database.{spare_bodies}
use Rattle.ss_shard.proofs.Bodies.{NoneBefore}
use Rattle.ss_shard.proofs.shard.bodies.body_number.Given as goal

-- none of the bodies before has this text
abbrev pub invariant-loop-place : goal.invariant-loop-place
invariant-loop-place l = NoneBefore l.text (spare_bodies l.catalog l.procedure) l.place
