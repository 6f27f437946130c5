use Rattle.ss_shard.specs.Parts.{IsWholeShard}
use Rattle.ss_execution_cases.proofs.joining.check_on.Given as goal

abbrev pub invariant-loop-line : goal.invariant-loop-line
invariant-loop-line l = IsWholeShard l.catalog l.parts l.shard
