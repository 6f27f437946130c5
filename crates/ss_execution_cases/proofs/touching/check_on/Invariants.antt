use Rattle.ss_execution_cases.specs.Held.{AreOfOne}
use Rattle.ss_execution_cases.proofs.touching.check_on.Given as goal

abbrev pub invariant-loop-line : goal.invariant-loop-line
invariant-loop-line l = AreOfOne l.catalog l.parts l.shards
