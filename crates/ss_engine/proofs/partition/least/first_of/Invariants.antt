use Rattle.ss_engine.specs.Least.{NoneBelow}
use Rattle.ss_engine.proofs.partition.least.first_of.Given as goal

-- none so far is a member
abbrev pub invariant-loop-q : goal.invariant-loop-q
invariant-loop-q l = NoneBelow l.q l.set
