use Rattle.ss_sched.specs.Ranks.{AreCounted}
use Rattle.ss_sched.proofs.rank.Ranks.of.Given as goal

abbrev pub invariant-loop-round : goal.invariant-loop-round
invariant-loop-round l = AreCounted l.catalog l.round l.by_number
