use Rattle.std.proofs.Common.{◌≡◌, map}
use Rattle.std.specs.List.{range_with_len}
use Rattle.ss_model.specs.Partitions.{home_of}
use Rattle.ss_partition.proofs.at_home.homes.Given as goal

abbrev pub invariant-loop-procedure : goal.invariant-loop-procedure
invariant-loop-procedure l = l.homes ≡ map (home_of l.catalog l.parts) (range_with_len 0 l.procedure-index)
