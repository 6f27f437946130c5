use Rattle.std.proofs.Common.{◌≡◌, ◌++◌, map, reverse, length}
use Rattle.ss_shard.specs.Unions.{numbers_of}
use Rattle.ss_hand.specs.Apart.{shards_of, ArePartitions, HasRoom}
use Rattle.ss_hand.specs.Partitions.{number_of}
use Rattle.ss_hand.proofs.closing.set_apart.Given as goal

abbrev pub invariant-loop-partition : goal.invariant-loop-partition
invariant-loop-partition g l = record {
  are : ArePartitions g.I.Life.catalog g.I.Life.parts g.I.Life.opening (shards_of l.apart) l.apart.marks.items;
  all : numbers_of (shards_of l.apart) ++ map number_of (reverse l.list.items) ≡ numbers_of (shards_of l.initial.apart) ++ map number_of (reverse l.initial.list.items);
  room : HasRoom (length l.list.items) l.apart;
}

abbrev pub decreases-loop-partition : goal.decreases-loop-partition
decreases-loop-partition g l = length l.list.items
