use Rattle.std.proofs.Common.{List, sym, subst, arith}
use Rattle.ss_party.specs.Tags.{TagsFrom}
use Rattle.ss_hand.specs.Partitions.{PartitionView}
use Rattle.ss_opening.proofs.Fresh.{partition_more}
use Rattle.ss_opening.proofs.bays.partitions.Goals as goal

pub loop-shard-preserved : goal.loop-shard-preserved
loop-shard-preserved g c =
    let i = c.loop-shard.invariant in
    let more = partition_more g.I.Life.catalog g.I.Life.parts g.I.Life.opening c.loop-shard.made.items c.push_reserved.new.self.items c.in-Some.shard c.in-Some-next.mark c.new.result c.next.new.self.rest.items c.next-in-loop-shard.new.self.rest.items c.loop-shard.shard-iterator.rest.items c.loop-shard.left.rest.items
    i.left c.in-Some.ensures.steps.0 c.in-Some-next.ensures.items c.new.ensures c.push_reserved.ensures.items i.tags in
    record {
      left = more.left;
      tags = more.tags;
      many = (let a = more.many in let b = i.many in let e = more.shorter in omega arith);
      room = (let e = c.push_reserved.ensures.capacity in let r = i.room in omega arith);
    }

pub returns-clause-tags : goal.returns-clause-tags
returns-clause-tags g c = subst (λ (made : List PartitionView). TagsFrom (λ (p : PartitionView). p.shard.number) 0 made) (sym c.from_vec.ensures) c.loop-shard.invariant.tags
