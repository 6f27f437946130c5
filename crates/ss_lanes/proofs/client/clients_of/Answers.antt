use Rattle.std.proofs.Common.{rules, ◌≡◌, ◌-◌, ◌∷◌, List, length, drop, sym, ap, subst, ◌∙◌, arith}
use Rattle.ss_lanes.specs.Clients.{EachHasLane, MayBegin}
use Rattle.ss_lanes.specs.Lanes.{LaneView}
use Rattle.ss_lanes.proofs.ByClient.{one_begins}
use Rattle.ss_lanes.proofs.client.clients_of.Goals as goal

pub loop-lane-preserved : goal.loop-lane-preserved
loop-lane-preserved g c =
    let old = c.loop-lane.clients.items in
    let new = c.push_reserved.new.self.items in
    let rest = c.next.new.self.rest.items in
    let lane = c.in-Some.lane in
    let i = c.loop-lane.invariant in
    let split : c.loop-lane.lane-iterator.rest.items ≡ lane ∷ rest = search rules in
    let left : lane ∷ rest ≡ drop (length old) c.args.lanes.items = sym split ∙ i.rest in
    let one = one_begins g.I.Life.first c.args.starts.now c.args.requests.now c.args.lanes.items rest old new lane c.reserve.new.self (c.count_requests.result - c.start_of.result)
    c.requires.fresh left c.reserve.ensures.unchanged (search rules) c.in_ok-reserve.ensures.ok c.push_reserved.ensures.items i.begin in
    record {
      rest = one.0;
      many = (let m = i.many in let l = ap (λ (xs : List LaneView). length xs) split in let n = one.1.many_are in let e = c.push_reserved.ensures.len in search rules);
      begin = one.1;
      room = search rules;
    }

pub returns : goal.returns
returns g c =
    let i = c.loop-lane.invariant in
    let many : length c.loop-lane.clients.items ≡ length c.args.lanes.items = (let m = i.many in let none : length c.loop-lane.lane-iterator.rest.items ≡ 0 = search rules in omega arith) in
    subst (λ n. EachHasLane n (MayBegin g.I.Life.first c.args.starts.now c.args.requests.now) c.loop-lane.clients.items) many i.begin
