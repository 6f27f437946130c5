use Rattle.std.proofs.Common.{◌≡◌, ◌≤◌, ◌+◌, ◌++◌, ◌∷◌, map, reverse, length, vec_len, vec_capacity, All}
use Rattle.ss_party.specs.Turns.{turn_of, bays_of, IsTaken}
use Rattle.ss_shard.specs.Unions.{numbers_of}
use Rattle.ss_hand.specs.Apart.{shards_of, ArePartitions, HasRoom}
use Rattle.ss_hand.specs.Partitions.{number_of}
use Rattle.ss_hand.proofs.taking.take_several.Given as goal

abbrev pub invariant-loop-partition : goal.invariant-loop-partition
invariant-loop-partition g l = record {
  are : ArePartitions g.I.Life.catalog g.I.Life.parts g.I.Life.opening (shards_of l.apart) l.apart.marks.items;
  turns_are : l.turn ∷ l.others.items ≡ map (turn_of l.fn.bays) (numbers_of (shards_of l.apart));
  all : numbers_of (shards_of l.apart) ++ bays_of (reverse l.list.items) ≡ numbers_of (shards_of l.initial.apart) ++ bays_of (reverse l.initial.list.items);
  own : All (λ one. IsTaken number_of l.fn.bays one.1.bay one) (reverse l.list.items);
  room : HasRoom (length l.list.items) l.apart;
  turn_room : vec_len l.others + length l.list.items ≤ vec_capacity l.others;
}

abbrev pub decreases-loop-partition : goal.decreases-loop-partition
decreases-loop-partition g l = length l.list.items
