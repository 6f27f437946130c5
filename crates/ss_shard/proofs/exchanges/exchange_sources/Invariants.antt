use Rattle.std.proofs.Common.{◌==◌}
use Rattle.ss_model.specs.Partitions.{home_partition, border_procedure}
use Rattle.ss_shard.proofs.Exchanging.{below, AreExchanged}
use Rattle.ss_shard.proofs.exchanges.exchange_sources.Given as goal

abbrev pub invariant-loop-number : goal.invariant-loop-number
invariant-loop-number l = AreExchanged (below (λ s. home_partition l.parts (border_procedure l.catalog s) == l.partition) l.number) l.fn.sources l.fn.others l.sources l.others
