use Rattle.std.proofs.Common.{◌≡◌, List, subst}
use Rattle.ss_model.specs.declared.entry.Entry.TheVariants.{Step as StepEntry}
use Rattle.ss_commitlog.specs.Roles.{In}
use Rattle.ss_commitlog.specs.Tokens.{Known}
use Rattle.ss_hand.specs.Hands.{WereTaken}
use Rattle.ss_commitlog.proofs.CallerLemmas.{follows_on}
use Rattle.ss_engine.proofs.Touching.{just_here, members_run, holds_touched, some_member, home_is_least, some_mark, of_mark}
use Rattle.ss_engine.proofs.Trying.{of_ok, step_tried, tried_later}
use Rattle.ss_engine.proofs.engine.Engine.step.Goals as goal

pub take_set-requires-clause-some : goal.take_set-requires-clause-some
take_set-requires-clause-some g c =
    let just = just_here g.I.Life.catalog c.self.inside.catalog g.I.Life.parts c.self.inside.parts (StepEntry c.args.procedure 0) c.procedure_touch_set-set.result c.self.invariant.catalog_is c.self.invariant.parts_are
    (c.procedure_touch_set-set.ensures 0) in
    some_member g.I.Life.catalog c.self.invariant.accepted g.I.Life.parts c.self.invariant.some (StepEntry c.args.procedure 0) c.procedure_touch_set-set.result just c.requires.1

pub take_set-requires-clause-below : goal.take_set-requires-clause-below
take_set-requires-clause-below g c =
    let just = just_here g.I.Life.catalog c.self.inside.catalog g.I.Life.parts c.self.inside.parts (StepEntry c.args.procedure 0) c.procedure_touch_set-set.result c.self.invariant.catalog_is c.self.invariant.parts_are
    (c.procedure_touch_set-set.ensures 0) in
    members_run g.I.Life.catalog g.I.Life.parts (StepEntry c.args.procedure 0) c.procedure_touch_set-set.result just c.self.invariant.some

pub execute_step-stepped-requires-clause-holds : goal.execute_step-stepped-requires-clause-holds
execute_step-stepped-requires-clause-holds g c =
    let just = just_here g.I.Life.catalog c.self.inside.catalog g.I.Life.parts c.self.inside.parts (StepEntry c.args.procedure 0) c.procedure_touch_set-set.result c.self.invariant.catalog_is c.self.invariant.parts_are
    (c.procedure_touch_set-set.ensures 0) in
    let w : WereTaken {I = g.row.I.Denot} g.I.Life.catalog g.I.Life.parts g.I.Life.opening c.args.self.now c.procedure_touch_set-set.result c.take_set.new.note c.in-Ok.hand c.in-Ok.turns
    = of_ok c.take_set.result (c.in-Ok.hand, c.in-Ok.turns) (λ t. WereTaken {I = g.row.I.Denot} g.I.Life.catalog g.I.Life.parts g.I.Life.opening c.args.self.now c.procedure_touch_set-set.result c.take_set.new.note t.0 t.1)
    c.in-Ok.is c.take_set.ensures.ok in
    record { held = w.held; in_hand = w.in_hand; touched = holds_touched g.I.Life.catalog g.I.Life.parts (StepEntry c.args.procedure 0) c.procedure_touch_set-set.result w.held just w.members }

pub put_back-requires : goal.put_back-requires
put_back-requires g c =
    let w : WereTaken {I = g.row.I.Denot} g.I.Life.catalog g.I.Life.parts g.I.Life.opening c.args.self.now c.procedure_touch_set-set.result c.take_set.new.note c.in-Ok.hand c.in-Ok.turns
    = of_ok c.take_set.result (c.in-Ok.hand, c.in-Ok.turns) (λ t. WereTaken {I = g.row.I.Denot} g.I.Life.catalog g.I.Life.parts g.I.Life.opening c.args.self.now c.procedure_touch_set-set.result c.take_set.new.note t.0 t.1)
    c.in-Ok.is c.take_set.ensures.ok in
    (w.held, c.show_note.ensures.in_hand w.held (c.execute_step-stepped.ensures.in_hand w.held w.in_hand), w.turns_are)

pub show_note-requires-clause-accepted : goal.show_note-requires-clause-accepted
show_note-requires-clause-accepted g c = c.self.invariant.accepted

pub show_note-requires-clause-parts : goal.show_note-requires-clause-parts
show_note-requires-clause-parts g c = c.self.invariant.some

pub show_note-requires-clause-marks : goal.show_note-requires-clause-marks
show_note-requires-clause-marks g c = λ none.
    let w : WereTaken {I = g.row.I.Denot} g.I.Life.catalog g.I.Life.parts g.I.Life.opening c.args.self.now c.procedure_touch_set-set.result c.take_set.new.note c.in-Ok.hand c.in-Ok.turns
    = of_ok c.take_set.result (c.in-Ok.hand, c.in-Ok.turns) (λ t. WereTaken {I = g.row.I.Denot} g.I.Life.catalog g.I.Life.parts g.I.Life.opening c.args.self.now c.procedure_touch_set-set.result c.take_set.new.note t.0 t.1)
    c.in-Ok.is c.take_set.ensures.ok in
    let (m, m_in) = some_mark g.I.Life.catalog g.I.Life.parts g.I.Life.opening w.held c.execute_step-stepped.new.hand (c.execute_step-stepped.ensures.in_hand w.held w.in_hand) in
    subst (λ (ks : List Known). In m ks) none m_in

pub returns : goal.returns
returns g c =
    let w : WereTaken {I = g.row.I.Denot} g.I.Life.catalog g.I.Life.parts g.I.Life.opening c.args.self.now c.procedure_touch_set-set.result c.take_set.new.note c.in-Ok.hand c.in-Ok.turns
    = of_ok c.take_set.result (c.in-Ok.hand, c.in-Ok.turns) (λ t. WereTaken {I = g.row.I.Denot} g.I.Life.catalog g.I.Life.parts g.I.Life.opening c.args.self.now c.procedure_touch_set-set.result c.take_set.new.note t.0 t.1)
    c.in-Ok.is c.take_set.ensures.ok in
    let shown = c.take_set.new.note in
    let end = c.show_note.new.note in
    let (m, m_in) = some_mark g.I.Life.catalog g.I.Life.parts g.I.Life.opening w.held c.in-Ok.hand w.in_hand in
    let tried = step_tried g.I.Life.catalog g.I.Life.parts g.I.Life.opening g.I.Life.first g.I.Life.limit c.args.p c.args.procedure c.in-Ok.hand.marks c.execute_step-stepped.new.hand.marks m shown end
    (λ r. home_is_least g.I.Life.catalog c.self.invariant.accepted g.I.Life.parts c.self.invariant.some c.args.p c.args.procedure r c.requires) m_in
    (of_mark (λ (k : Known). k.list ≡ shown.list) c.in-Ok.hand.marks m w.know_one m_in) c.show_note.ensures.one c.show_note.ensures.note.within
    (follows_on g.I.Life.catalog g.I.Life.parts g.I.Life.limit shown end c.show_note.ensures.note) c.execute_step-stepped.result c.execute_step-stepped.ensures.stepped c.stepped.result c.stepped.ensures in
    tried_later g.I.Life.catalog g.I.Life.parts g.I.Life.opening g.I.Life.first g.I.Life.limit c.args.p c.args.note.now shown end c.stepped.result
    c.take_set.ensures.note tried
