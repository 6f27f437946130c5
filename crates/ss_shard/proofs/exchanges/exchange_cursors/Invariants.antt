use Rattle.std.proofs.Common.{◌==◌}
use Rattle.ss_model.specs.Partitions.{home_of}
use Rattle.ss_shard.proofs.Exchanging.{below, AreExchanged}
use Rattle.ss_shard.proofs.exchanges.exchange_cursors.Given as goal

abbrev pub invariant-loop-number : goal.invariant-loop-number
invariant-loop-number l = AreExchanged (below (λ q. home_of l.catalog l.parts q == l.partition) l.number) l.fn.cursors l.fn.others l.cursors l.others
