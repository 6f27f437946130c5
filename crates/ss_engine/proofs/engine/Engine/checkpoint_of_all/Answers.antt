use Rattle.std.proofs.Common.{◌≡◌, ◌∙◌, ℕ, List, map, ap, subst}
use Rattle.ss_party.specs.Turns.{turn_of}
use Rattle.ss_shard.specs.Parts.{all_partitions}
use Rattle.ss_hand.specs.Hands.{IsInHand, WereTaken}
use Rattle.ss_engine.proofs.AllParts.{all_held, parts_run, some_part}
use Rattle.ss_engine.proofs.Checkpoints.{all_shown, none_made, note_checkpointed, note_on}
use Rattle.ss_engine.proofs.Trying.{of_ok}
use Rattle.ss_engine.proofs.engine.Engine.checkpoint_of_all.Goals as goal

pub take_set-requires-clause-some : goal.take_set-requires-clause-some
take_set-requires-clause-some g c = some_part g.I.Life.parts c.all_parts.result c.all_parts.ensures c.self.invariant.some

pub take_set-requires-clause-below : goal.take_set-requires-clause-below
take_set-requires-clause-below g c = parts_run g.I.Life.parts c.all_parts.result c.all_parts.ensures

pub checkpoint_in_hand-made-requires-clause-in_hand : goal.checkpoint_in_hand-made-requires-clause-in_hand
checkpoint_in_hand-made-requires-clause-in_hand g c =
    let w : WereTaken {I = g.row.I.Denot} g.I.Life.catalog g.I.Life.parts g.I.Life.opening c.args.self.now c.all_parts.result c.take_set.new.note c.in-Ok.hand c.in-Ok.turns
    = of_ok c.take_set.result (c.in-Ok.hand, c.in-Ok.turns) (λ t. WereTaken {I = g.row.I.Denot} g.I.Life.catalog g.I.Life.parts g.I.Life.opening c.args.self.now c.all_parts.result c.take_set.new.note t.0 t.1)
    c.in-Ok.is c.take_set.ensures.ok in
    let held : w.held ≡ all_partitions g.I.Life.parts = all_held g.I.Life.parts c.all_parts.result c.all_parts.ensures w.held w.in_hand.rising w.members in
    record { in_hand = subst (λ (h : List ℕ). IsInHand g.I.Life.catalog g.I.Life.parts g.I.Life.opening h c.in-Ok.hand) held w.in_hand; list = c.take_set.new.note.list; know_one = w.know_one }

pub put_back-requires : goal.put_back-requires
put_back-requires g c =
    let w : WereTaken {I = g.row.I.Denot} g.I.Life.catalog g.I.Life.parts g.I.Life.opening c.args.self.now c.all_parts.result c.take_set.new.note c.in-Ok.hand c.in-Ok.turns
    = of_ok c.take_set.result (c.in-Ok.hand, c.in-Ok.turns) (λ t. WereTaken {I = g.row.I.Denot} g.I.Life.catalog g.I.Life.parts g.I.Life.opening c.args.self.now c.all_parts.result c.take_set.new.note t.0 t.1)
    c.in-Ok.is c.take_set.ensures.ok in
    let held : w.held ≡ all_partitions g.I.Life.parts = all_held g.I.Life.parts c.all_parts.result c.all_parts.ensures w.held w.in_hand.rising w.members in (
      all_partitions g.I.Life.parts,
      all_shown g.I.Life.catalog c.self.invariant.accepted g.I.Life.parts c.self.invariant.some g.I.Life.limit g.I.Life.opening c.checkpoint_in_hand-made.new.hand c.meet_with.new.marks c.take_set.new.note c.meet_with.new.note c.meet_with.ensures c.checkpoint_in_hand-made.ensures.in_hand,
      w.turns_are ∙ ap (map (turn_of c.args.self.now)) held,
    )

pub returns-in_default-clause-answer : goal.returns-in_default-clause-answer
returns-in_default-clause-answer g c = none_made g.I.Life.first c.args.note.now c.take_set.new.note

pub returns-clause-note : goal.returns-clause-note
returns-clause-note g c =
    let w : WereTaken {I = g.row.I.Denot} g.I.Life.catalog g.I.Life.parts g.I.Life.opening c.args.self.now c.all_parts.result c.take_set.new.note c.in-Ok.hand c.in-Ok.turns
    = of_ok c.take_set.result (c.in-Ok.hand, c.in-Ok.turns) (λ t. WereTaken {I = g.row.I.Denot} g.I.Life.catalog g.I.Life.parts g.I.Life.opening c.args.self.now c.all_parts.result c.take_set.new.note t.0 t.1)
    c.in-Ok.is c.take_set.ensures.ok in
    let held : w.held ≡ all_partitions g.I.Life.parts = all_held g.I.Life.parts c.all_parts.result c.all_parts.ensures w.held w.in_hand.rising w.members in
    note_on g.I.Life.catalog g.I.Life.parts g.I.Life.limit g.I.Life.opening g.I.Life.first c.args.note.now c.take_set.new.note c.take_set.ensures.note c.in-Ok.hand c.checkpoint_in_hand-made.new.hand c.meet_with.new.marks c.meet_with.new.note
    (subst (λ (h : List ℕ). IsInHand g.I.Life.catalog g.I.Life.parts g.I.Life.opening h c.in-Ok.hand) held w.in_hand) w.know_one c.checkpoint_in_hand-made.ensures.in_hand c.meet_with.ensures

pub returns-clause-answer : goal.returns-clause-answer
returns-clause-answer g c =
    let w : WereTaken {I = g.row.I.Denot} g.I.Life.catalog g.I.Life.parts g.I.Life.opening c.args.self.now c.all_parts.result c.take_set.new.note c.in-Ok.hand c.in-Ok.turns
    = of_ok c.take_set.result (c.in-Ok.hand, c.in-Ok.turns) (λ t. WereTaken {I = g.row.I.Denot} g.I.Life.catalog g.I.Life.parts g.I.Life.opening c.args.self.now c.all_parts.result c.take_set.new.note t.0 t.1)
    c.in-Ok.is c.take_set.ensures.ok in
    let held : w.held ≡ all_partitions g.I.Life.parts = all_held g.I.Life.parts c.all_parts.result c.all_parts.ensures w.held w.in_hand.rising w.members in
    note_checkpointed g.I.Life.catalog g.I.Life.parts g.I.Life.limit g.I.Life.opening g.I.Life.first c.args.note.now c.take_set.new.note c.take_set.ensures.note c.in-Ok.hand c.checkpoint_in_hand-made.new.hand c.meet_with.new.marks c.meet_with.new.note
    (subst (λ (h : List ℕ). IsInHand g.I.Life.catalog g.I.Life.parts g.I.Life.opening h c.in-Ok.hand) held w.in_hand) w.know_one c.checkpoint_in_hand-made.ensures.in_hand c.meet_with.ensures
    c.checkpoint_in_hand-made.result c.checkpoint_in_hand-made.ensures.answer
