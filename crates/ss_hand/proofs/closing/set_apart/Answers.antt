use Rattle.std.proofs.Common.{◌≡◌, ℕ, suc, List, [], ◌∷◌, ◌++◌, map, reverse, length, length-append, refl, sym, ap, ◌∙◌, subst, arith, append-nil}
use Rattle.std.proofs.lemmas.List.{with_items_is}
use Rattle.ss_shard.specs.Unions.{numbers_of}
use Rattle.ss_hand.specs.Apart.{shards_of, HasRoom}
use Rattle.ss_hand.specs.Partitions.{PartitionView, number_of}
use Rattle.ss_hand.proofs.Turned.{turned, turned_more, empty, numbers_on, less_room}
use Rattle.ss_hand.proofs.closing.set_apart.Goals as goal

pub loop-partition-init : goal.loop-partition-init
loop-partition-init g c =
    let rest = c.pop.new.self.items in
    let b = c.pop.new.self.ok.0 in
    let d = c.in-Some.ensures.len in
    let e = c.len.ensures in
    record {
      are = c.of_one-apart.ensures.are;
      all = refl;
      room = c.of_one-apart.ensures.room (length rest) (less_room c.len.result (suc (length rest)) c.in_ok-room.room (omega arith) c.in_ok-room.ensures);
    }

pub loop-partition-preserved : goal.loop-partition-preserved
loop-partition-preserved g c =
    let i = c.loop-partition.invariant in
    let partition = c.in-Some-pop.partition in
    let old = c.loop-partition.list.items in
    let rest = c.pop-in-loop-partition.new.self.items in
    let is : reverse old ≡ partition ∷ reverse rest = turned_more old rest partition c.in-Some-pop.ensures.items in
    let before = shards_of c.loop-partition.apart in
    let more = length-append rest (partition ∷ []) in
    let long : length old ≡ suc (length rest) = ap length c.in-Some-pop.ensures.items ∙ (omega arith) in
    record {
      are = c.add.ensures.are;
      all = numbers_on (shards_of c.add.new.self) before partition.shard (number_of partition) (map number_of (reverse rest)) c.add.ensures.shards refl
          ∙ ap (λ (l : List PartitionView). numbers_of before ++ map number_of l) (sym is) ∙ i.all;
      room = c.add.ensures.room (length rest) (subst (λ (m : ℕ). HasRoom m c.loop-partition.apart) long i.room);
    }

pub returns-clause-numbers : goal.returns-clause-numbers
returns-clause-numbers g c =
    let i = c.loop-partition.invariant in
    let first = c.in-Some.first in
    let rest = c.pop.new.self.items in
    let apart = c.loop-partition.apart in
    let same : length c.reverse.new.self ≡ c.into_vec-list.result.len = c.reverse.ensures.len ∙ c.as_mut_slice.ensures.len in
    let back : c.reverse.new.self ≡ reverse c.args.partitions = c.reverse.ensures.after ∙ ap reverse (c.as_mut_slice.ensures.value ∙ c.into_vec-list.ensures) in
    let is : c.args.partitions ≡ first ∷ reverse rest = turned c.args.partitions c.reverse.new.self rest first back (sym (with_items_is c.into_vec-list.result c.reverse.new.self same) ∙ c.in-Some.ensures.items) in
    let none : c.loop-partition.list.items ≡ [] = empty c.loop-partition.list.items (sym c.loop-partition.list.ok.0 ∙ c.in_default-pop.ensures.cases.0) in
    ap numbers_of c.into_hand.ensures.shards ∙ sym (append-nil (numbers_of (shards_of apart)))
    ∙ ap (λ (l : List PartitionView). numbers_of (shards_of apart) ++ map number_of (reverse l)) (sym none) ∙ i.all
    ∙ numbers_on (shards_of c.of_one-apart.result) [] first.shard (number_of first) (map number_of (reverse rest)) c.of_one-apart.ensures.shards refl
    ∙ ap (λ (l : List PartitionView). map number_of l) (sym is)
