use Rattle.std.proofs.Common.{◌≡◌, ◌≤◌, ◌+◌, length, vec_capacity}
use Rattle.ss_party.specs.Tags.{TagsFrom}
use Rattle.ss_hand.specs.Partitions.{PartitionView}
use Rattle.ss_opening.specs.Openings.{ArePartitionsFrom}
use Rattle.ss_opening.proofs.bays.partitions.Given as goal

-- shards and marks that are left are those of the partitions from the next one on
abbrev pub invariant-loop-shard : goal.invariant-loop-shard
invariant-loop-shard g l = record {
  left : ArePartitionsFrom g.I.Life.catalog g.I.Life.parts g.I.Life.opening (length l.made.items) l.shard-iterator.rest.items l.left.rest.items;
  tags : TagsFrom (λ (p : PartitionView). p.shard.number) 0 l.made.items;
  many : length l.made.items + length l.shard-iterator.rest.items ≡ length l.fn.shards;
  room : length l.fn.shards ≤ vec_capacity l.made;
}
