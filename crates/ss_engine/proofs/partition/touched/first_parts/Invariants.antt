use Rattle.std.proofs.Common.{nat_lt}
use Rattle.ss_partition.specs.PartSets.{HasJust}
use Rattle.ss_engine.proofs.partition.touched.first_parts.Given as goal

abbrev pub invariant-loop-partition : goal.invariant-loop-partition
invariant-loop-partition l = HasJust l.set (λ p. nat_lt p l.partition)
