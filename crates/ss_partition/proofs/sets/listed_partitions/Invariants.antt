use Rattle.std.proofs.Common.{◌==◌, ◌%◌, take}
use Rattle.std.specs.List.{list_any}
use Rattle.ss_partition.specs.PartSets.{HasJust}
use Rattle.ss_partition.proofs.sets.listed_partitions.Given as goal

abbrev pub invariant-loop-part : goal.invariant-loop-part
invariant-loop-part l = HasJust l.set (λ p. list_any (λ part. p == part % l.parts) (take l.part-index l.listed))
