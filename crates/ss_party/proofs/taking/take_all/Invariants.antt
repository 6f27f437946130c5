use Rattle.std.proofs.Common.{◌≡◌, length, vec_capacity}
use Rattle.ss_party.specs.Tags.{TagsFrom}
use Rattle.ss_party.proofs.taking.take_all.Given as goal

abbrev pub invariant-loop-p : goal.invariant-loop-p
invariant-loop-p g l = record {
  tags : TagsFrom g.T.Tagged.tag 0 l.list.items;
  count : length l.list.items ≡ l.p;
  room : vec_capacity l.list ≡ vec_capacity l.fn.list;
}
