use Rattle.std.proofs.Common.{◌+◌, ◌∙◌, Bool, true, List, [], length, take, ap, arith, refl, subst}
use Rattle.ss_model.specs.declared.entry.Listed.{Listed}
use Rattle.ss_model.specs.Database.{Database as Model}
use Rattle.ss_model.specs.Replays.{after}
use Rattle.ss_replay.specs.Replaying.{IsOnAt}
use Rattle.ss_weak_replay.specs.WeakReplaying.{RunsBehind, SettlesBehind, asked_listed}
use Rattle.ss_weak_replay.proofs.AskedLists.{stops_these}
use Rattle.ss_weak_replay.proofs.Replaying.{at_first, begins, front_more, more_entries, passes_first, stands_after, stops_there}
use Rattle.ss_weak_replay.proofs.replay.replay_on.Goals as goal

pub returns-then-not-branch-clause-refused : goal.returns-then-not-branch-clause-refused
returns-then-not-branch-clause-refused g c = λ d on.
    let catalog = c.args.catalog.now in
    let old = c.args.so_far.now in
    let new = c.settle_behind.new.so_far in
    let settled = c.in_ok-settle_behind.ensures.settled d (at_first catalog old.database c.args.first d old.list c.requires.none on) in
    passes_first catalog d c.args.first old.list c.requires.none (subst (λ (b : Bool). SettlesBehind catalog d (c.args.first + length old.list) old.list new.list new.database b) c.if-not-branch.true settled)

pub loop-entry-init : goal.loop-entry-init
loop-entry-init g c =
    let catalog = c.args.catalog.now in
    let old = c.args.so_far.now in
    let new = c.settle_behind.new.so_far in
    record {
      front = record {
        front = [];
        left = c.into_iter-entry-iterator.ensures.into_iter_gives.0 ∙ c.into_vec-entry-items.ensures;
        many = refl;
        replayed = λ d on.
            let settled = c.in_ok-settle_behind.ensures.settled d (at_first catalog old.database c.args.first d old.list c.requires.none on) in
            begins catalog d c.args.first old.list new.list new.database c.requires.none c.in_ok-settle_behind.ensures.placed
            (subst (λ (b : Bool). SettlesBehind catalog d (c.args.first + length old.list) old.list new.list new.database b) c.if-not-branch.false settled);
      };
      placed = c.in_ok-settle_behind.ensures.placed;
      many = omega arith;
      whole = c.in_ok-settle_behind.ensures.whole;
      dealt = c.in_ok-settle_behind.ensures.dealt;
    }

pub run_entry-requires-clause-on : goal.run_entry-requires-clause-on
run_entry-requires-clause-on g c =
    let old = c.args.so_far.now in
    let now = c.loop-entry.so_far in
    let (d, on) = c.requires.on in
    (after c.args.catalog.now d now.list, stands_after c.args.catalog.now c.requires.accepted old.database now.database c.args.first c.args.entries c.loop-entry.entry-iterator.rest.items c.loop-entry.before now.list c.loop-entry.invariant.front d on)

pub returns-then-not-branch-2-clause-refused : goal.returns-then-not-branch-2-clause-refused
returns-then-not-branch-2-clause-refused g c = λ d on.
    let catalog = c.args.catalog.now in
    let old = c.args.so_far.now in
    let now = c.loop-entry.so_far in
    let new = c.run_entry.new.so_far in
    let rest = c.loop-entry.entry-iterator.rest.items in
    let far = c.loop-entry.invariant.front in
    stops_these c.weak_lists_hold_asked.ensures catalog old.database now.database c.args.first c.args.entries rest c.loop-entry.before now.list new.list c.in_ok-first_asked.field-0 far c.requires.asked c.in_ok-run_entry.ensures.behind
    (c.in_ok-first_asked.ensures ∙ ap (λ (l : List Listed). take c.loop-entry.before (asked_listed l)) c.replace-list.ensures.value) d on
    (stops_there catalog c.requires.accepted old.database now.database c.args.first c.args.entries rest c.loop-entry.before now.list far c.in-Some.entry c.next.new.self.rest.items c.in-Some.ensures.steps.0
    (λ d on. subst (λ (b : Bool). RunsBehind catalog d (c.args.first + length now.list) c.in-Some.entry now.list new.list new.database b) c.if-not-branch-2.true (c.in_ok-run_entry.ensures.runs d on)) d on)

pub loop-entry-preserved : goal.loop-entry-preserved
loop-entry-preserved g c =
    let catalog = c.args.catalog.now in
    let old = c.args.so_far.now in
    let now = c.loop-entry.so_far in
    let new = c.run_entry.new.so_far in
    let i = c.loop-entry.invariant in
    let rest = c.loop-entry.entry-iterator.rest.items in
    let runs : (d : Model) → IsOnAt catalog now.database (c.args.first + length now.list) d → RunsBehind catalog d (c.args.first + length now.list) c.in-Some.entry now.list new.list new.database true =
    λ d on. subst (λ (b : Bool). RunsBehind catalog d (c.args.first + length now.list) c.in-Some.entry now.list new.list new.database b) c.if-not-branch-2.false (c.in_ok-run_entry.ensures.runs d on) in
    record {
      front = front_more catalog c.requires.accepted old.database now.database c.args.first c.args.entries rest c.loop-entry.before now.list i.front c.weak_lists_grow.ensures c.in-Some.entry c.next.new.self.rest.items new.list new.database
          c.in-Some.ensures.steps.0 c.in_ok-run_entry.ensures.placed runs;
      placed = c.in_ok-run_entry.ensures.placed;
      many = (
          let (d, on) = c.requires.on in
          let behind = stands_after catalog c.requires.accepted old.database now.database c.args.first c.args.entries rest c.loop-entry.before now.list i.front d on in
          more_entries catalog (after catalog d now.list) c.in-Some.entry now.list new.list new.database c.loop-entry.before i.many (runs (after catalog d now.list) behind)
          );
      whole = c.in_ok-run_entry.ensures.whole;
      dealt = c.in_ok-run_entry.ensures.dealt ∙ i.dealt;
    }
