use Rattle.std.proofs.Common.{◌<◌, ℕ, IfSome, IfNone}
use Rattle.ss_settle.specs.Ready.{StepsWhenFound, WasFirst, WasIdle}
use Rattle.ss_commitlog.specs.Growing.{GoesOn}
use Rattle.ss_settle.proofs.settling.next_ready.Given as goal

-- what was found was ready behind some list on the way, and first of those that were so at each partition so far; where nothing was
-- found, no procedure was ready at any of them
abbrev pub invariant-loop-p : goal.invariant-loop-p
invariant-loop-p g l = record {
  on : GoesOn g.I.Life.catalog g.I.Life.parts l.fn.mark l.mark;
  low : IfSome l.found (λ q. q < 64);
  some : IfSome l.found (StepsWhenFound g.I.Life.catalog g.I.Life.parts g.I.Life.opening l.fn.mark l.mark);
  first : IfSome l.found (λ q. (p : ℕ) → p < l.p → WasFirst g.I.Life.catalog g.I.Life.parts g.I.Life.opening l.ranks p l.fn.mark l.mark q);
  idle : IfNone l.found ((p : ℕ) → p < l.p → WasIdle g.I.Life.catalog g.I.Life.parts g.I.Life.opening p l.fn.mark l.mark);
}
