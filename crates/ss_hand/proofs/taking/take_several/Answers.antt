use Rattle.std.proofs.Common.{◌≡◌, ◌↔◌, ℕ, suc, List, [], ◌∷◌, ◌++◌, Contains, map, reverse, length, length-append, refl, sym, ap, ◌∙◌, subst, arith, append-nil}
use Rattle.std.specs.Int.{IsBitSet}
use Rattle.std.specs.List.Sorted.{IsStrictlyIncreasing}
use Rattle.std.proofs.lemmas.List.{with_items_is}
use Rattle.std.proofs.lemmas.List.Elements.{All-rest}
use Rattle.ss_party.specs.Turns.{TurnValue, turn_of, bays_of, IsTaken}
use Rattle.ss_party.proofs.CallerLemmas.{few_gathered}
use Rattle.ss_shard.specs.ShardValue.{ShardValue}
use Rattle.ss_shard.specs.Unions.{numbers_of}
use Rattle.ss_hand.specs.Apart.{shards_of, numbers_in, HasRoom}
use Rattle.ss_hand.specs.Partitions.{PartitionView, number_of}
use Rattle.ss_hand.proofs.Partitions.{turns_more}
use Rattle.ss_hand.proofs.Turned.{turned, turned_more, empty, first_has, numbers_on, turn_is, less_room}
use Rattle.ss_hand.proofs.taking.take_several.Goals as goal

pub of_one-apart-requires : goal.of_one-apart-requires
of_one-apart-requires g c =
    let gathered = c.in-Ok.gathered in
    let few = few_gathered number_of c.args.bays.now c.args.set c.args.parts gathered c.in-Ok.ensures.ok c.requires.below in
    let long = ap length c.into_vec-list.ensures in
    let a = c.into_vec-list.result.ok.0 in
    let b = c.pop.new.self.ok.0 in
    let d = c.in-Some.ensures.len in
    let e = c.from.ensures in
    (length c.pop.new.self.items, less_room c.from.result (suc (length c.pop.new.self.items)) c.in_ok-room.room (omega arith) c.in_ok-room.ensures)

pub loop-partition-init : goal.loop-partition-init
loop-partition-init g c =
    let bays = c.args.bays.now in
    let gathered = c.in-Ok.gathered in
    let first = c.in-Some.first in
    let turn = c.in-Some.turn in
    let rest = c.pop.new.self.items in
    let few = few_gathered number_of bays c.args.set c.args.parts gathered c.in-Ok.ensures.ok c.requires.below in
    let long = ap length c.into_vec-list.ensures in
    let a = c.into_vec-list.result.ok.0 in
    let b = c.pop.new.self.ok.0 in
    let d = c.in-Some.ensures.len in
    let e = c.from.ensures in
    let f = c.from-2.ensures in
    let h = c.in_ok-others.ensures.exact in
    let i = c.in_ok-others.ensures.len in
    let same : length c.reverse.new.self ≡ c.into_vec-list.result.len = c.reverse.ensures.len ∙ c.as_mut_slice.ensures.len in
    let back : c.reverse.new.self ≡ reverse gathered = c.reverse.ensures.after ∙ ap reverse (c.as_mut_slice.ensures.value ∙ c.into_vec-list.ensures) in
    let is : gathered ≡ (first, turn) ∷ reverse rest = turned gathered c.reverse.new.self rest (first, turn) back (sym (with_items_is c.into_vec-list.result c.reverse.new.self same) ∙ c.in-Some.ensures.items) in
    let own : PartitionView × TurnValue → Type 0 = λ one. IsTaken number_of bays one.1.bay one in
    let one : turn ≡ turn_of bays (number_of first) = turn_is bays first turn (first_has own (first, turn) (reverse rest) gathered is c.in-Ok.ensures.ok.own) in
    record {
      are = c.of_one-apart.ensures.are;
      turns_are = (λ k. one k ∷ c.in_ok-others.ensures.items k)
          ∙ ap (λ (l : List ShardValue). map (turn_of bays) (numbers_of l)) (sym c.of_one-apart.ensures.shards);
      all = refl;
      own = All-rest own (first, turn) (reverse rest) gathered is c.in-Ok.ensures.ok.own;
      room = c.of_one-apart.ensures.room (length rest) (less_room c.from.result (suc (length rest)) c.in_ok-room.room (omega arith) c.in_ok-room.ensures);
      turn_room = omega arith;
    }

pub loop-partition-preserved : goal.loop-partition-preserved
loop-partition-preserved g c =
    let bays = c.args.bays.now in
    let i = c.loop-partition.invariant in
    let partition = c.in-Some-pop.partition in
    let turn = c.in-Some-pop.turn in
    let old = c.loop-partition.list.items in
    let rest = c.pop-in-loop-partition.new.self.items in
    let is : reverse old ≡ (partition, turn) ∷ reverse rest = turned_more old rest (partition, turn) c.in-Some-pop.ensures.items in
    let own : PartitionView × TurnValue → Type 0 = λ one. IsTaken number_of bays one.1.bay one in
    let taken : IsTaken number_of bays turn.bay (partition, turn) = first_has own (partition, turn) (reverse rest) (reverse old) is i.own in
    let one : turn ≡ turn_of bays (number_of partition) = turn_is bays partition turn taken in
    let before = shards_of c.loop-partition.apart in
    let more = length-append rest ((partition, turn) ∷ []) in
    let long : length old ≡ suc (length rest) = ap length c.in-Some-pop.ensures.items ∙ (omega arith) in
    let a = i.turn_room in
    let b = c.push_reserved.ensures.len in
    let d = c.push_reserved.ensures.capacity in
    record {
      are = c.add.ensures.are;
      turns_are = ap (λ (l : List TurnValue). c.in-Some.turn ∷ l) c.push_reserved.ensures.items ∙ ap (λ (l : List TurnValue). l ++ turn ∷ []) i.turns_are
          ∙ ap (λ (t : TurnValue). map (turn_of bays) (numbers_of before) ++ t ∷ []) one
          ∙ sym (turns_more bays before partition.shard)
          ∙ ap (λ (l : List ShardValue). map (turn_of bays) (numbers_of l)) (sym c.add.ensures.shards);
      all = numbers_on (shards_of c.add.new.self) before partition.shard turn.bay (bays_of (reverse rest)) c.add.ensures.shards taken.own
          ∙ ap (λ (l : List (PartitionView × TurnValue)). numbers_of before ++ bays_of l) (sym is) ∙ i.all;
      own = All-rest own (partition, turn) (reverse rest) (reverse old) is i.own;
      room = c.add.ensures.room (length rest) (subst (λ (m : ℕ). HasRoom m c.loop-partition.apart) long i.room);
      turn_room = omega arith;
    }

pub returns : goal.returns
returns g c =
    let bays = c.args.bays.now in
    let i = c.loop-partition.invariant in
    let gathered = c.in-Ok.gathered in
    let first = c.in-Some.first in
    let turn = c.in-Some.turn in
    let rest = c.pop.new.self.items in
    let apart = c.loop-partition.apart in
    let same : length c.reverse.new.self ≡ c.into_vec-list.result.len = c.reverse.ensures.len ∙ c.as_mut_slice.ensures.len in
    let back : c.reverse.new.self ≡ reverse gathered = c.reverse.ensures.after ∙ ap reverse (c.as_mut_slice.ensures.value ∙ c.into_vec-list.ensures) in
    let is : gathered ≡ (first, turn) ∷ reverse rest = turned gathered c.reverse.new.self rest (first, turn) back (sym (with_items_is c.into_vec-list.result c.reverse.new.self same) ∙ c.in-Some.ensures.items) in
    let own : PartitionView × TurnValue → Type 0 = λ one. IsTaken number_of bays one.1.bay one in
    let taken : IsTaken number_of bays turn.bay (first, turn) = first_has own (first, turn) (reverse rest) gathered is c.in-Ok.ensures.ok.own in
    let none : c.loop-partition.list.items ≡ [] = empty c.loop-partition.list.items (sym c.loop-partition.list.ok.0 ∙ c.in_default-pop-2.ensures.cases.0) in
    let joined : numbers_of (shards_of apart) ≡ bays_of gathered =
    sym (append-nil (numbers_of (shards_of apart))) ∙ ap (λ (l : List (PartitionView × TurnValue)). numbers_of (shards_of apart) ++ bays_of (reverse l)) (sym none) ∙ i.all
    ∙ numbers_on (shards_of c.of_one-apart.result) [] first.shard turn.bay (bays_of (reverse rest)) c.of_one-apart.ensures.shards taken.own
    ∙ ap (λ (l : List (PartitionView × TurnValue)). bays_of l) (sym is) in
    let same_shards = c.into_hand.ensures.shards in
    let numbers : numbers_in c.into_hand.result ≡ bays_of gathered = ap numbers_of same_shards ∙ joined in
    record {
      members = λ p. subst (λ (l : List ℕ). IsBitSet c.args.set p ↔ Contains l p) (sym numbers) (c.in-Ok.ensures.ok.members p);
      rising = subst IsStrictlyIncreasing (sym numbers) c.in-Ok.ensures.ok.rising;
      are = c.into_hand.ensures.are;
      turns_are = i.turns_are ∙ ap (λ (l : List ShardValue). map (turn_of bays) (numbers_of l)) (sym same_shards);
    }
