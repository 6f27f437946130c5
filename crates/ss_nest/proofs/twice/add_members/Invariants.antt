use Rattle.std.proofs.Common.{◌≡◌, ◌++◌, drop, take}
use Rattle.ss_nest.specs.Members.{again}
use Rattle.ss_nest.proofs.twice.add_members.Given as goal

abbrev pub invariant-loop-member : goal.invariant-loop-member
invariant-loop-member l = record {
  added : l.before ≡ l.fn.before ++ take l.member-index l.members;
  rest : again l.fn.before l.members ≡ again l.before (drop l.member-index l.members);
}
