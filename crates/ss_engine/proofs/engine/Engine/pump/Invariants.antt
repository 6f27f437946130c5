use Rattle.ss_commitlog.specs.Growing.{GoesOn}
use Rattle.ss_engine.proofs.engine.Engine.pump.Given as goal

-- the lent note's list goes on
abbrev pub invariant-loop : goal.invariant-loop
invariant-loop g l =
    (goal.iterator-loop g).can_next l.iterator' × (goal.iterator-loop g).is_finite l.iterator' × GoesOn g.I.Life.catalog g.I.Life.parts l.fn.note l.note
