use Rattle.std.proofs.Common.{◌<◌, ◌+◌, ℕ, List, [], ◌∷◌, ◌++◌, sym, ap, subst, ◌∙◌, arith}
use Rattle.std.proofs.lemmas.List.{nil_from_length}
use Rattle.ss_lanes.specs.Lanes.{LaneView, AreFresh, IsFresh, start_of}
use Rattle.ss_lanes.proofs.FreshLanes.{mark_left, note_left, next_left, fresh_more}
use Rattle.ss_lanes.proofs.fresh.fresh_lanes.Goals as goal

pub unreachable-requires : goal.unreachable-requires
unreachable-requires g c =
    let low = subst (λ (k : ℕ). c.loop-client.client < k) c.requires.clients c.loop-client-test.true in
    let none = c.in_default.ensures.cases.0 in
    let long = c.loop-client.left.rest.ok.0 in
    mark_left g.I.Life.first g.I.Life.parts g.I.Life.clients c.loop-client.client low c.loop-client.left.rest.items c.loop-client.notes c.loop-client.invariant.left
    (nil_from_length c.loop-client.left.rest.items (omega arith))

pub unreachable-requires-in_default-pop : goal.unreachable-requires-in_default-pop
unreachable-requires-in_default-pop g c =
    let low = subst (λ (k : ℕ). c.loop-client.client < k) c.requires.clients c.loop-client-test.true in
    note_left g.I.Life.first g.I.Life.parts g.I.Life.clients c.loop-client.client low c.loop-client.left.rest.items c.loop-client.notes c.loop-client.invariant.left c.in_default-pop.ensures.none.0

pub new-requires-clause-mark : goal.new-requires-clause-mark
new-requires-clause-mark g c =
    let low = subst (λ (k : ℕ). c.loop-client.client < k) c.requires.clients c.loop-client-test.true in
    (next_left g.I.Life.first g.I.Life.parts g.I.Life.clients c.loop-client.client low c.loop-client.left.rest.items c.loop-client.notes c.in-Some.mark c.in-Some-pop.note c.next.new.self.rest.items c.pop.new.self
    c.loop-client.invariant.left c.in-Some.ensures.items c.in-Some-pop.ensures.some).mark_is

pub new-requires-clause-note : goal.new-requires-clause-note
new-requires-clause-note g c =
    let low = subst (λ (k : ℕ). c.loop-client.client < k) c.requires.clients c.loop-client-test.true in
    (next_left g.I.Life.first g.I.Life.parts g.I.Life.clients c.loop-client.client low c.loop-client.left.rest.items c.loop-client.notes c.in-Some.mark c.in-Some-pop.note c.next.new.self.rest.items c.pop.new.self
    c.loop-client.invariant.left c.in-Some.ensures.items c.in-Some-pop.ensures.some).note_is

pub loop-client-preserved : goal.loop-client-preserved
loop-client-preserved g c =
    let low = subst (λ (k : ℕ). c.loop-client.client < k) c.requires.clients c.loop-client-test.true in
    let next = next_left g.I.Life.first g.I.Life.parts g.I.Life.clients c.loop-client.client low c.loop-client.left.rest.items c.loop-client.notes c.in-Some.mark c.in-Some-pop.note c.next.new.self.rest.items c.pop.new.self
    c.loop-client.invariant.left c.in-Some.ensures.items c.in-Some-pop.ensures.some in
    record {
      left = next.left;
      fresh = subst (λ (lanes : List LaneView). AreFresh g.I.Life.first (c.loop-client.client + 1) c.args.starts.now lanes) (sym {A = List LaneView} {a = c.push_reserved.new.self.items} {b = c.loop-client.lanes.items ++ c.new.result ∷ []} c.push_reserved.ensures.items)
          (fresh_more g.I.Life.first c.loop-client.client c.args.starts.now c.loop-client.lanes.items c.new.result c.loop-client.invariant.fresh
          (subst (λ (s : ℕ). IsFresh g.I.Life.first c.loop-client.client s c.new.result) (c.start_of-start.ensures ∙ ap (start_of c.args.starts.now) c.from-in-loop-client.ensures) c.new.ensures));
      room = (let e = c.push_reserved.ensures.capacity in let r = c.loop-client.invariant.room in omega arith);
    }
