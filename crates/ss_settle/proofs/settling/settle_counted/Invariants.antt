use Rattle.ss_shard.specs.Parts.{all_partitions}
use Rattle.ss_hand.specs.Hands.{IsInHand}
use Rattle.ss_settle.proofs.SettledLists.{WentOn}
use Rattle.ss_settle.proofs.settling.settle_counted.Given as goal

-- all partitions are in hand, with so many steps behind the list that was whole, and marks that know no fewer entries
abbrev pub invariant-loop : goal.invariant-loop
invariant-loop g l =
    (goal.iterator-loop g).can_next l.iterator' × (goal.iterator-loop g).is_finite l.iterator'
    × IsInHand g.I.Life.catalog g.I.Life.parts g.I.Life.opening (all_partitions g.I.Life.parts) l.hand
    × WentOn g.I.Life.catalog g.I.Life.parts g.I.Life.opening l.fn.hand.marks l.hand.marks l.steps
