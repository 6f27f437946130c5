use Rattle.std.proofs.Common.{◌≡◌, ◌∷◌, map, length}
use Rattle.ss_party.specs.Turns.{turn_of}
use Rattle.ss_shard.specs.Unions.{numbers_of}
use Rattle.ss_hand.specs.Apart.{ArePartitions}
use Rattle.ss_hand.proofs.putting.put_back.Given as goal

abbrev pub invariant-loop-shard : goal.invariant-loop-shard
invariant-loop-shard g l = record {
  are : ArePartitions g.I.Life.catalog g.I.Life.parts g.I.Life.opening (l.first ∷ l.others.items) l.marks;
  turns_are : l.turn ∷ l.turns.items ≡ map (turn_of l.bays) (numbers_of (l.first ∷ l.others.items));
}

abbrev pub decreases-loop-shard : goal.decreases-loop-shard
decreases-loop-shard g l = length l.others.items
