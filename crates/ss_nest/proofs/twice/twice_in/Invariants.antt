use Rattle.std.proofs.Common.{◌≡◌, drop, take}
use Rattle.ss_nest.specs.Members.{all_members, twice_in, twice_behind}
use Rattle.ss_nest.proofs.twice.twice_in.Given as goal

abbrev pub invariant-loop-number : goal.invariant-loop-number
invariant-loop-number l = record {
  members : l.before ≡ all_members (take l.number l.nests);
  rest : twice_in l.catalog l.nests ≡ twice_behind l.catalog (take l.number l.nests) (drop l.number l.nests);
}
