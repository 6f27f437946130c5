use Rattle.std.proofs.Common.{◌∙◌, is_some, sym, ap, true≢false}
use Rattle.ss_shard.specs.Parts.{all_partitions}
use Rattle.ss_turns.proofs.CallerLemmas.{looked_in_hand, some_marks}
use Rattle.ss_settle.proofs.WholeList.{first_met, looked_on, none_found, some_found}
use Rattle.ss_settle.proofs.settling.ready_in_hand.Goals as goal

pub unreachable-requires : goal.unreachable-requires
unreachable-requires g c =
    let there = first_met g.I.Life.catalog g.I.Life.parts g.I.Life.limit c.args.hand.now.marks c.meet_all.new.marks c.meet_all.ensures
    (some_marks g.I.Life.catalog g.I.Life.parts g.I.Life.opening (all_partitions g.I.Life.parts) c.args.hand.now c.requires.in_hand) in
    true≢false (sym (c.get_mut.ensures.within.1 there) ∙ ap is_some c.in_default.is)

pub returns-clause-in_hand : goal.returns-clause-in_hand
returns-clause-in_hand g c =
    looked_in_hand g.I.Life.catalog c.requires.accepted g.I.Life.parts c.args.works.now.some g.I.Life.opening (all_partitions g.I.Life.parts) c.args.hand.now _
    (looked_on g.I.Life.catalog g.I.Life.parts g.I.Life.limit c.args.hand.now.marks c.meet_all.new.marks c.in-Some.mark.now c.next_ready.new.mark c.meet_all.ensures c.in-Some.ensures.item c.next_ready.ensures.mark)
    c.requires.in_hand

pub returns-clause-marks : goal.returns-clause-marks
returns-clause-marks g c =
    looked_on g.I.Life.catalog g.I.Life.parts g.I.Life.limit c.args.hand.now.marks c.meet_all.new.marks c.in-Some.mark.now c.next_ready.new.mark c.meet_all.ensures c.in-Some.ensures.item c.next_ready.ensures.mark

pub returns-clause-some : goal.returns-clause-some
returns-clause-some g c =
    some_found g.I.Life.catalog g.I.Life.parts g.I.Life.limit c.args.hand.now.marks c.meet_all.new.marks c.in-Some.mark.now c.next_ready.new.mark c.meet_all.ensures c.in-Some.ensures.item c.next_ready.ensures.mark
    c.args.works.now.some c.requires.in_hand.roles c.args.ranks.now c.requires.ranks g.I.Life.opening c.next_ready.result c.next_ready.ensures.some c.next_ready.ensures.first

pub returns-clause-none : goal.returns-clause-none
returns-clause-none g c =
    none_found g.I.Life.catalog g.I.Life.parts g.I.Life.limit c.args.hand.now.marks c.meet_all.new.marks c.in-Some.mark.now c.next_ready.new.mark c.meet_all.ensures c.in-Some.ensures.item c.next_ready.ensures.mark
    c.args.works.now.some c.requires.in_hand.roles g.I.Life.opening c.next_ready.result c.next_ready.ensures.none
