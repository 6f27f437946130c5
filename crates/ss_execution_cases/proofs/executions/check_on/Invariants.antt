use Rattle.ss_shard.specs.Shards.{IsCommitted}
use Rattle.ss_execution_cases.proofs.executions.check_on.Given as goal

abbrev pub invariant-loop-line : goal.invariant-loop-line
invariant-loop-line l = IsCommitted l.catalog l.database.whole
