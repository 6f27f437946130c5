use Rattle.std.proofs.Common.{◌≡◌, replicate}
use Rattle.ss_shard.proofs.database.own_bodies.Given as goal

abbrev pub invariant-loop : goal.invariant-loop
invariant-loop l = l.made ≡ replicate l.counter 0
