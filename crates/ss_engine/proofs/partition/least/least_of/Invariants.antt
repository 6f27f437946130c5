use Rattle.ss_engine.specs.Least.{NoneBelow}
use Rattle.ss_engine.proofs.partition.least.least_of.Given as goal

-- none so far is a member
abbrev pub invariant-loop-p : goal.invariant-loop-p
invariant-loop-p l = NoneBelow l.p l.set
