use Rattle.std.proofs.Common.{◌≤◌, vec_len, vec_capacity}
use Rattle.ss_party.proofs.Gathering.{IsGatheredBelow}
use Rattle.ss_party.proofs.taking.take_members.Given as goal

abbrev pub invariant-loop-p : goal.invariant-loop-p
invariant-loop-p g l = record {
  taken : IsGatheredBelow g.T.Tagged.tag l.table.shared.table_id l.set l.p l.list.items;
  room : vec_len l.list ≤ l.p;
  enough : l.table.shared.table_id.slots ≤ vec_capacity l.list;
}
