use Rattle.std.proofs.Common.{rules, ◌≡◌, ◌∙◌, List, [], ◌∷◌, ◌++◌, length, ap, subst, arith}
use Rattle.std.proofs.lemmas.List.{length_push, nil_from_length}
use Rattle.ss_commitlog.specs.Tokens.{Known}
use Rattle.ss_model.specs.declared.entry.Answer.{Answer}
use Rattle.ss_lanes.specs.Lanes.{LaneView}
use Rattle.ss_lanes.proofs.LanesApart.{AreApart, one_apart, all_apart, of_one_lane}
use Rattle.ss_lanes.proofs.apart.take_apart.Goals as goal

pub loop-lane-preserved : goal.loop-lane-preserved
loop-lane-preserved g c =
    let i = c.loop-lane.invariant in
    let of = of_one_lane g.I.Life.clients g.I.Life.first c.lane.inside.ticket c.lane.inside.due c.lane.inside.mark c.lane.inside.note c.lane.inside.answers c.in-Some.lane c.lane.invariant c.lane.view_is in
    let shorter = ap (λ (l : List LaneView). length l) c.in-Some.ensures.steps.0 in
    let marks = ap (λ (l : List Known). length l) {x = c.push_reserved.new.self.items} {y = c.loop-lane.marks.items ++ c.lane.inside.mark ∷ []} c.push_reserved.ensures.items in
    let one = length_push c.loop-lane.marks.items c.lane.inside.mark in
    let answers = ap (λ (l : List (List Answer)). length l) {x = c.push_reserved-in-loop-lane.new.self.items} {y = c.loop-lane.answers.items ++ c.into_seq.result ∷ []} c.push_reserved-in-loop-lane.ensures.items in
    let another = length_push c.loop-lane.answers.items c.into_seq.result in
    record {
      so_far = one_apart g.I.Life.first c.args.lanes.items c.loop-lane.lane-iterator.rest.items c.next.new.self.rest.items c.in-Some.lane c.loop-lane.marks.items c.push_reserved.new.self.items c.loop-lane.answers.items c.push_reserved-in-loop-lane.new.self.items
          c.lane.inside.mark c.into_seq.result i.so_far c.in-Some.ensures.steps.0 c.push_reserved.ensures.items c.push_reserved-in-loop-lane.ensures.items of.0 (c.into_seq.ensures ∙ of.1);
      room = (let r = i.room in let e = c.push_reserved.ensures.capacity in omega arith);
      room_too = (let r = i.room_too in let e = c.push_reserved-in-loop-lane.ensures.capacity in omega arith);
      same_room = c.push_reserved.ensures.capacity ∙ i.same_room;
      some = λ none. absurd {A = c.next.new.self.rest.items ≡ c.args.lanes.items} (cc);
    }

pub returns-clause-marks : goal.returns-clause-marks
returns-clause-marks g c =
    let i = c.loop-lane.invariant in
    let zero : length c.loop-lane.lane-iterator.rest.items ≡ 0 = search rules in
    let none = nil_from_length c.loop-lane.lane-iterator.rest.items zero in
    let so = subst (λ (left : List LaneView). AreApart g.I.Life.first c.args.lanes.items left c.loop-lane.marks.items c.loop-lane.answers.items) none i.so_far in
    ((all_apart g.I.Life.first c.args.lanes.items c.loop-lane.marks.items c.loop-lane.answers.items so).0, i.same_room)

pub returns-clause-answers : goal.returns-clause-answers
returns-clause-answers g c =
    let i = c.loop-lane.invariant in
    let zero : length c.loop-lane.lane-iterator.rest.items ≡ 0 = search rules in
    let none = nil_from_length c.loop-lane.lane-iterator.rest.items zero in
    let so = subst (λ (left : List LaneView). AreApart g.I.Life.first c.args.lanes.items left c.loop-lane.marks.items c.loop-lane.answers.items) none i.so_far in
    (all_apart g.I.Life.first c.args.lanes.items c.loop-lane.marks.items c.loop-lane.answers.items so).1
