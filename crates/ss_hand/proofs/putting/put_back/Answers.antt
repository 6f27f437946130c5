use Rattle.std.proofs.Common.{◌≡◌, ◌∙◌, ◌∷◌, List, length, ap, sym}
use Rattle.ss_party.specs.Turns.{TurnValue, turn_of}
use Rattle.ss_hand.specs.Partitions.{PartitionView, number_of}
use Rattle.ss_hand.proofs.Partitions.{popped, popped_turn, last_one}
use Rattle.ss_hand.proofs.putting.put_back.Goals as goal

pub new-requires : goal.new-requires
new-requires g c =
    (popped g.I.Life.catalog g.I.Life.parts g.I.Life.opening c.args.hand.shard c.loop-shard.others.items c.pop.new.self.items c.in-Some.shard c.loop-shard.marks c.pop-in-Some.new.self c.in-Some-pop.mark
    c.in-Some.ensures.items c.in-Some-pop.ensures.some c.loop-shard.invariant.are).1

pub put-requires : goal.put-requires
put-requires g c =
    (popped_turn c.args.bays.now c.args.hand.shard c.loop-shard.others.items c.pop.new.self.items c.in-Some.shard (c.turns.inside.first ∷ c.loop-shard.turns.items) (c.turns.inside.first ∷ c.pop-in-Some-2.new.self.items) c.in-Some-pop-2.turn
    c.in-Some.ensures.items (ap (λ (l : List TurnValue). c.turns.inside.first ∷ l) c.in-Some-pop-2.ensures.items) c.loop-shard.invariant.turns_are).1
    ∙ ap (λ (p : PartitionView). turn_of c.args.bays.now (number_of p)) (sym c.new.ensures)

pub loop-shard-preserved : goal.loop-shard-preserved
loop-shard-preserved g c = record {
  are = (popped g.I.Life.catalog g.I.Life.parts g.I.Life.opening c.args.hand.shard c.loop-shard.others.items c.pop.new.self.items c.in-Some.shard c.loop-shard.marks c.pop-in-Some.new.self c.in-Some-pop.mark
      c.in-Some.ensures.items c.in-Some-pop.ensures.some c.loop-shard.invariant.are).0;
  turns_are = (popped_turn c.args.bays.now c.args.hand.shard c.loop-shard.others.items c.pop.new.self.items c.in-Some.shard (c.turns.inside.first ∷ c.loop-shard.turns.items) (c.turns.inside.first ∷ c.pop-in-Some-2.new.self.items) c.in-Some-pop-2.turn
      c.in-Some.ensures.items (ap (λ (l : List TurnValue). c.turns.inside.first ∷ l) c.in-Some-pop-2.ensures.items) c.loop-shard.invariant.turns_are).0;
}

pub new-requires-2 : goal.new-requires-2
new-requires-2 g c =
    let none : length c.loop-shard.others.items ≡ 0 = sym c.loop-shard.others.ok.0 ∙ c.in_default.ensures.cases.0 in
    last_one g.I.Life.catalog g.I.Life.parts g.I.Life.opening c.args.hand.shard c.loop-shard.others.items c.loop-shard.marks c.pop-2.new.self c.in-Some-pop-3.mark none c.in-Some-pop-3.ensures.some c.loop-shard.invariant.are
