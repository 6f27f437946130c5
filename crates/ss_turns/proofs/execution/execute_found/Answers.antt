use Rattle.std.proofs.Common.{refl}
use Rattle.ss_turns.proofs.Marks.{covers_step}
use Rattle.ss_turns.proofs.MarksOn.{all_on_itself}
use Rattle.ss_turns.proofs.RanStep.{came_listed, says_listed, stepped_so}
use Rattle.ss_turns.proofs.RunsInHand.{right_of_run, run_in_hand, run_may_end, stays_in_hand}
use Rattle.ss_turns.proofs.execution.execute_found.Goals as goal

pub returns-in_default-clause-in_hand : goal.returns-in_default-clause-in_hand
returns-in_default-clause-in_hand g c =
    stays_in_hand g.I.Life.catalog c.requires.accepted g.I.Life.parts c.args.works.now.some g.I.Life.opening c.args.hand.now c.run_step.new.shard (c.in_default.ensures.err g.I.Life.parts)

pub returns-in_default-clause-stepped : goal.returns-in_default-clause-stepped
returns-in_default-clause-stepped g c = all_on_itself g.I.Life.catalog g.I.Life.parts c.args.hand.now.marks

pub commit_listed-said-requires-clause-covers : goal.commit_listed-said-requires-clause-covers
commit_listed-said-requires-clause-covers g c =
    let holds = c.requires.holds in
    covers_step g.I.Life.catalog g.I.Life.parts holds.held c.args.hand.now.marks holds.in_hand.roles c.args.procedure c.args.r holds.touched

pub commit_listed-said-requires-clause-right : goal.commit_listed-said-requires-clause-right
commit_listed-said-requires-clause-right g c =
    right_of_run g.I.Life.catalog c.requires.accepted g.I.Life.parts c.args.works.now.some g.I.Life.opening c.args.hand.now _ c.requires.holds c.args.rows c.requires.given
    c.in-Ok.executed.emitted c.run_step.new.shard (c.in-Ok.ensures.ok g.I.Life.parts c.args.works.now.some) c.args.hand.now.marks (λ k i. i)

pub end-requires : goal.end-requires
end-requires g c =
    let marks = c.commit_listed-said.new.marks in
    let said = c.commit_listed-said.result in
    run_may_end g.I.Life.catalog c.requires.accepted g.I.Life.parts c.args.works.now.some g.I.Life.opening c.args.hand.now _ c.requires.holds c.args.rows c.requires.given
    c.in-Ok.executed.emitted c.run_step.new.shard (c.in-Ok.ensures.ok g.I.Life.parts c.args.works.now.some) marks said
    (says_listed g.I.Life.catalog g.I.Life.parts g.I.Life.first g.I.Life.limit c.args.hand.now.marks _ marks said c.commit_listed-said.ensures)
    (came_listed g.I.Life.catalog g.I.Life.parts g.I.Life.first g.I.Life.limit c.args.hand.now.marks _ marks said c.commit_listed-said.ensures)

pub returns-clause-in_hand : goal.returns-clause-in_hand
returns-clause-in_hand g c =
    let marks = c.commit_listed-said.new.marks in
    let said = c.commit_listed-said.result in
    run_in_hand g.I.Life.catalog c.requires.accepted g.I.Life.parts c.args.works.now.some g.I.Life.opening c.args.hand.now _ c.requires.holds c.args.rows c.requires.given
    c.in-Ok.executed.emitted c.run_step.new.shard (c.in-Ok.ensures.ok g.I.Life.parts c.args.works.now.some) marks said
    (says_listed g.I.Life.catalog g.I.Life.parts g.I.Life.first g.I.Life.limit c.args.hand.now.marks _ marks said c.commit_listed-said.ensures)
    (came_listed g.I.Life.catalog g.I.Life.parts g.I.Life.first g.I.Life.limit c.args.hand.now.marks _ marks said c.commit_listed-said.ensures)
    c.end.new.shard c.end.ensures

pub returns-clause-stepped : goal.returns-clause-stepped
returns-clause-stepped g c =
    stepped_so g.I.Life.catalog g.I.Life.parts g.I.Life.first g.I.Life.limit c.args.procedure c.args.r c.args.hand.now.marks c.commit_listed-said.new.marks _ refl c.commit_listed-said.result c.commit_listed-said.ensures
