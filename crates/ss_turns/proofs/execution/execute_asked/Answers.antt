use Rattle.std.proofs.Common.{refl, [], ◌∷◌}
use Rattle.ss_model.specs.declared.entry.Outcome.TheVariants.{Done}
use Rattle.ss_commitlog.proofs.CallerLemmas.{in_left}
use Rattle.ss_turns.specs.Commits.{with_client}
use Rattle.ss_turns.proofs.Marks.{covers_asked}
use Rattle.ss_turns.proofs.RanAsked.{came_asked, given_asked, says_asked}
use Rattle.ss_turns.proofs.RunsInHand.{right_of_run, run_in_hand, run_may_end, stays_in_hand}
use Rattle.ss_turns.proofs.execution.execute_asked.Goals as goal

pub returns-in_default-clause-in_hand : goal.returns-in_default-clause-in_hand
returns-in_default-clause-in_hand g c =
    stays_in_hand g.I.Life.catalog c.requires.accepted g.I.Life.parts c.args.works.now.some g.I.Life.opening c.args.hand.now c.run.new.shard (c.in_default.ensures.err g.I.Life.parts)

pub returns-in_default-clause-ran : goal.returns-in_default-clause-ran
returns-in_default-clause-ran g c = record { listed = record { entry = c.args.entry; outcome = Done [] }; entry_is = refl; commits = (refl, refl) }

pub commit_asked-said-requires-clause-covers : goal.commit_asked-said-requires-clause-covers
commit_asked-said-requires-clause-covers g c =
    let holds = c.requires.holds in
    covers_asked g.I.Life.catalog g.I.Life.parts holds.held c.args.hand.now.marks holds.in_hand.roles c.args.entry holds.touched c.args.mark.now c.requires.role

pub commit_asked-said-requires-clause-right : goal.commit_asked-said-requires-clause-right
commit_asked-said-requires-clause-right g c =
    let given = given_asked g.I.Life.catalog g.I.Life.opening c.args.hand.now.marks c.args.mark.now.role c.args.entry c.requires.role _ c.new-nothing.ensures in
    right_of_run g.I.Life.catalog c.requires.accepted g.I.Life.parts c.args.works.now.some g.I.Life.opening c.args.hand.now (record { entry = c.args.entry; outcome = c.in-Ok.executed.outcome }) c.requires.holds _ given
    c.in-Ok.executed.emitted c.run.new.shard (c.in-Ok.ensures.ok g.I.Life.parts c.args.works.now.some) (with_client c.args.hand.now.marks c.args.mark.now) (λ k i. in_left k c.args.hand.now.marks (c.args.mark.now ∷ []) i)

pub end-requires : goal.end-requires
end-requires g c =
    let given = given_asked g.I.Life.catalog g.I.Life.opening c.args.hand.now.marks c.args.mark.now.role c.args.entry c.requires.role _ c.new-nothing.ensures in
    let out = c.commit_asked-said.new in
    let said = c.commit_asked-said.result in
    run_may_end g.I.Life.catalog c.requires.accepted g.I.Life.parts c.args.works.now.some g.I.Life.opening c.args.hand.now (record { entry = c.args.entry; outcome = c.in-Ok.executed.outcome }) c.requires.holds _ given
    c.in-Ok.executed.emitted c.run.new.shard (c.in-Ok.ensures.ok g.I.Life.parts c.args.works.now.some) out.parts said
    (says_asked g.I.Life.catalog g.I.Life.parts g.I.Life.first g.I.Life.limit c.args.hand.now.marks c.args.mark.now _ out.parts out.mark said c.commit_asked-said.ensures)
    (came_asked g.I.Life.catalog g.I.Life.parts g.I.Life.first g.I.Life.limit c.args.hand.now.marks c.args.mark.now _ out.parts out.mark said c.commit_asked-said.ensures)

pub returns-clause-in_hand : goal.returns-clause-in_hand
returns-clause-in_hand g c =
    let given = given_asked g.I.Life.catalog g.I.Life.opening c.args.hand.now.marks c.args.mark.now.role c.args.entry c.requires.role _ c.new-nothing.ensures in
    let out = c.commit_asked-said.new in
    let said = c.commit_asked-said.result in
    run_in_hand g.I.Life.catalog c.requires.accepted g.I.Life.parts c.args.works.now.some g.I.Life.opening c.args.hand.now (record { entry = c.args.entry; outcome = c.in-Ok.executed.outcome }) c.requires.holds _ given
    c.in-Ok.executed.emitted c.run.new.shard (c.in-Ok.ensures.ok g.I.Life.parts c.args.works.now.some) out.parts said
    (says_asked g.I.Life.catalog g.I.Life.parts g.I.Life.first g.I.Life.limit c.args.hand.now.marks c.args.mark.now _ out.parts out.mark said c.commit_asked-said.ensures)
    (came_asked g.I.Life.catalog g.I.Life.parts g.I.Life.first g.I.Life.limit c.args.hand.now.marks c.args.mark.now _ out.parts out.mark said c.commit_asked-said.ensures)
    c.end.new.shard c.end.ensures
