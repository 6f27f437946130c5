use Rattle.std.proofs.Common.{subst, sym}
use Rattle.ss_turns.specs.Executed.{IsStepped}
use Rattle.ss_turns.specs.Stepping.{stepped_of}
use Rattle.ss_turns.proofs.MarksOn.{all_on_itself, looked_in_hand}
use Rattle.ss_turns.proofs.RanStep.{mapped_some, step_there, stepped_through}
use Rattle.ss_turns.proofs.execution.execute_step.Goals as goal

pub returns-in_default-clause-stepped : goal.returns-in_default-clause-stepped
returns-in_default-clause-stepped g c = all_on_itself g.I.Life.catalog g.I.Life.parts c.args.hand.now.marks

pub look_for-requires-clause-there : goal.look_for-requires-clause-there
look_for-requires-clause-there g c = step_there g.I.Life.catalog.procedures c.args.procedure c.requires.fits

pub execute_found-requires-clause-holds : goal.execute_found-requires-clause-holds
execute_found-requires-clause-holds g c =
    let holds = c.requires.holds in
    record {
      held = holds.held;
      in_hand = looked_in_hand g.I.Life.catalog c.requires.accepted g.I.Life.parts c.args.works.now.some g.I.Life.opening holds.held c.args.hand.now c.look_for.new.marks c.look_for.ensures.marks holds.in_hand;
      touched = holds.touched;
    }

pub returns-in-Ok-Some-clause-in_hand : goal.returns-in-Ok-Some-clause-in_hand
returns-in-Ok-Some-clause-in_hand g c = λ held in_hand.
    c.execute_found.ensures.in_hand held (looked_in_hand g.I.Life.catalog c.requires.accepted g.I.Life.parts c.args.works.now.some g.I.Life.opening held c.args.hand.now c.look_for.new.marks c.look_for.ensures.marks in_hand)

pub returns-in-Ok-Some-clause-stepped : goal.returns-in-Ok-Some-clause-stepped
returns-in-Ok-Some-clause-stepped g c =
    let marks = c.execute_found.new.hand.marks in
    let said = c.execute_found.result in
    subst (IsStepped g.I.Life.catalog g.I.Life.parts g.I.Life.first g.I.Life.limit c.args.procedure c.args.hand.now.marks marks) (sym (mapped_some said c.map.result c.map.ensures.cases))
    (stepped_through g.I.Life.catalog g.I.Life.parts g.I.Life.first g.I.Life.limit c.args.procedure c.args.hand.now.marks c.look_for.new.marks marks c.look_for.ensures.marks (stepped_of said) c.execute_found.ensures.stepped)

pub returns-in-Ok-None-clause-in_hand : goal.returns-in-Ok-None-clause-in_hand
returns-in-Ok-None-clause-in_hand g c = λ held in_hand.
    looked_in_hand g.I.Life.catalog c.requires.accepted g.I.Life.parts c.args.works.now.some g.I.Life.opening held c.args.hand.now c.look_for.new.marks c.look_for.ensures.marks in_hand

pub returns-in-Err-clause-in_hand : goal.returns-in-Err-clause-in_hand
returns-in-Err-clause-in_hand g c = λ held in_hand.
    looked_in_hand g.I.Life.catalog c.requires.accepted g.I.Life.parts c.args.works.now.some g.I.Life.opening held c.args.hand.now c.look_for.new.marks c.look_for.ensures.marks in_hand
