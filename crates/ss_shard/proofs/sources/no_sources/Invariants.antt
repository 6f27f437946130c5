use Rattle.std.proofs.Common.{◌≡◌, replicate}
use Rattle.std.specs.FinMap as finite
use Rattle.ss_shard.proofs.sources.no_sources.Given as goal

abbrev pub invariant-loop : goal.invariant-loop
invariant-loop l = l.made ≡ replicate l.counter finite.empty
