use Rattle.ss_engine.proofs.engine.Engine.wake.Given as goal

abbrev pub invariant-loop-procedure : goal.invariant-loop-procedure
invariant-loop-procedure g l = Unit {0}
