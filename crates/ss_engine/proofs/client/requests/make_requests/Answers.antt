use Rattle.std.proofs.Common.{rules, ◌≡◌, ◌+◌, ◌<◌, ◌==◌, true, false, ℕ, length, get_or, sym, ap, subst, ◌∙◌, arith}
use Rattle.ss_lemmas.proofs.Numbers.{eqb_apart, eqb_self}
use Rattle.ss_lanes.specs.Lanes.{LaneView}
use Rattle.ss_lanes.proofs.CallerLemmas.{made_kept, request_fits}
use Rattle.ss_engine.proofs.Requesting.{IsUnderway, has_come, makes, number_within, passes_others, passes_over, room_for, sets_out}
use Rattle.ss_engine.proofs.client.requests.make_requests.Goals as goal
use Rattle.ss_engine.proofs.client.requests.make_requests.Goals.{then-from-number+then-earlier-gt0, then-from-number+else-earlier-gt0, else-from-number}

pub loop-request-init : goal.loop-request-init
loop-request-init g c = sets_out g.I.Life.first g.I.Life.limit c.args.starts.now c.args.requests.now c.args.number c.start_of-earlier.result c.args.lane c.start_of-earlier.ensures c.requires.begins

pub make_next-next-requires-clause-spare : goal.make_next-next-requires-clause-spare
make_next-next-requires-clause-spare g c =
    let r = c.request-item.result in
    let own : (r.client == c.args.number) ≡ true = ap (λ n. n == c.args.number) (sym c.from.ensures ∙ c.if-from-number.true) ∙ eqb_self c.args.number in
    let none : c.loop-request.earlier ≡ 0 = omega (arith, c.if-earlier-gt0.false) in
    room_for g.I.Life.first g.I.Life.limit c.args.starts.now c.args.requests.now c.args.number c.loop-request.request-index c.loop-request.earlier r c.loop-request.lane
    c.loop-request-test.true c.request-item.is c.loop-request.invariant own none

pub make_next-next-requires-clause-numbered : goal.make_next-next-requires-clause-numbered
make_next-next-requires-clause-numbered g c =
    let r = c.request-item.result in
    let own : (r.client == c.args.number) ≡ true = ap (λ n. n == c.args.number) (sym c.from.ensures ∙ c.if-from-number.true) ∙ eqb_self c.args.number in
    let none : c.loop-request.earlier ≡ 0 = omega (arith, c.if-earlier-gt0.false) in
    let number = number_within g.I.Life.first g.I.Life.limit c.args.starts.now c.args.requests.now c.args.number c.loop-request.request-index c.loop-request.earlier r c.loop-request.lane
    c.loop-request-test.true c.request-item.is c.loop-request.invariant own none in
    let below = c.loop-request-test.true in
    omega arith

pub make_next-next-requires-clause-fits : goal.make_next-next-requires-clause-fits
make_next-next-requires-clause-fits g c =
    let rs = c.args.requests.now in
    let i = c.loop-request.request-index in
    let r = c.request-item.result in
    let lane = c.loop-request.lane in
    let below : i < length rs = c.loop-request-test.true in
    let here : r ≡ get_or rs i r = c.request-item.is in
    let own : r.client ≡ lane.client = search (rules, c.loop-request.invariant.made.client_is) in
    request_fits g.I.Life.catalog rs i r c.requires.fit below here lane.client (lane.start + length lane.answers) own

pub loop-request-preserved : goal.loop-request-preserved
loop-request-preserved g c =
    let first = g.I.Life.first in
    let limit = g.I.Life.limit in
    let starts = c.args.starts.now in
    let k = c.args.number in
    let rs = c.args.requests.now in
    let i = c.loop-request.request-index in
    let r = c.request-item.result in
    let old = c.loop-request.lane in
    let earlier = c.loop-request.earlier in
    let below : i < length rs = c.loop-request-test.true in
    let here : r ≡ get_or rs i r = c.request-item.is in
    let underway = c.loop-request.invariant in
    elim c.if-from-number.branch [
      | then-from-number+then-earlier-gt0 w ↦
          (let own : (r.client == k) ≡ true = ap (λ n. n == k) (sym c.from.ensures ∙ w.if-from-number.true) ∙ eqb_self k in
          subst (λ (lane : LaneView). IsUnderway first limit starts rs k (i + 1) c.if-from-number.earlier lane) (sym w.lane-is)
          (passes_over first limit starts rs k i earlier r old below here underway own c.if-from-number.earlier w.if-earlier-gt0.true w.earlier-is))
      | then-from-number+else-earlier-gt0 w ↦
          (let own : (r.client == k) ≡ true = ap (λ n. n == k) (sym c.from.ensures ∙ w.if-from-number.true) ∙ eqb_self k in
          let none : earlier ≡ 0 = omega (arith, w.if-earlier-gt0.false) in
          subst (λ (n : ℕ). IsUnderway first limit starts rs k (i + 1) n c.if-from-number.lane) (sym w.earlier-is)
          (subst (λ (lane : LaneView). IsUnderway first limit starts rs k (i + 1) earlier lane) (sym w.lane-is)
          (makes first limit starts rs k i earlier r old below here underway own none w.make_next-next.result.0 w.make_next-next.ensures)))
      | else-from-number w ↦
          (let other : (r.client == k) ≡ false = eqb_apart r.client k (λ same. w.if-from-number.false (c.from.ensures ∙ same)) in
          subst (λ (n : ℕ). IsUnderway first limit starts rs k (i + 1) n c.if-from-number.lane) (sym w.earlier-is)
          (subst (λ (lane : LaneView). IsUnderway first limit starts rs k (i + 1) earlier lane) (sym w.lane-is)
          (passes_others first limit starts rs k i earlier r old below here underway other)))
    ]

pub returns : goal.returns
returns g c =
    let first = g.I.Life.first in
    let limit = g.I.Life.limit in
    let starts = c.args.starts.now in
    let rs = c.args.requests.now in
    let lane = c.loop-request.lane in
    made_kept first limit starts c.args.number rs lane c.ensure_durable-lane.result.0
    (has_come first limit starts rs c.args.number c.loop-request.request-index c.loop-request.earlier lane c.loop-request-test.false c.loop-request.invariant) c.ensure_durable-lane.ensures.keeps
