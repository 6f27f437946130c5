use Rattle.std.proofs.Common.{◌≡◌, IfSome, IfNone, None}
use Rattle.ss_settle.specs.Members.{NoneBelow}
use Rattle.ss_settle.specs.Ranking.{IsFirstRanked}
use Rattle.ss_settle.proofs.ranking.first_ranked.Given as goal

-- the first of the members so far and of what was found before
abbrev pub invariant-loop-q : goal.invariant-loop-q
invariant-loop-q l = record {
  some : IfSome l.first (IsFirstRanked l.ranks l.q l.set l.fn.found);
  none : IfNone l.first (NoneBelow l.q l.set × (l.fn.found ≡ None));
}
