use Rattle.std.proofs.Common.{◌==◌}
use Rattle.ss_model.specs.Partitions.{window_partition}
use Rattle.ss_shard.proofs.Exchanging.{below, AreExchanged}
use Rattle.ss_shard.proofs.exchanges.exchange_windows.Given as goal

abbrev pub invariant-loop-number : goal.invariant-loop-number
invariant-loop-number l = AreExchanged (below (λ w. window_partition l.catalog l.parts w == l.partition) l.number) l.fn.windows l.fn.others l.windows l.others
