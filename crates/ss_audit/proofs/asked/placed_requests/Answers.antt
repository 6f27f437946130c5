use Rattle.std.proofs.Common.{◌≡◌, ◌∙◌, ◌<◌, ◌+◌, ◌==◌, ◌++◌, List, [], length, take, cond, ap, arith, length-take}
use Rattle.ss_audit.specs.declared.positions.Placed.{Placed}
use Rattle.ss_audit.specs.Clients.{number_of}
use Rattle.ss_audit.specs.Positions.{placed_requests}
use Rattle.ss_audit.proofs.Placing.{one_counted, one_placed}
use Rattle.ss_audit.proofs.asked.placed_requests.Goals as goal

pub loop-position-init : goal.loop-position-init
loop-position-init c = record {
  placed = ap (λ (ps : List Placed). ps ++ placed_requests [] c.args.requests.now) c.new-placed.ensures.items;
  counts = λ client within. c.zeros-counts.ensures client;
}

pub loop-position-preserved : goal.loop-position-preserved
loop-position-preserved c =
    let all = c.args.requests.now in
    let i = c.loop-position.position in
    let r = c.index-requests-position.result in
    let within = c.loop-position-test.true in
    let is = c.index-requests-position.is in
    let so_far = c.loop-position.invariant in
    let long : length (take i all) ≡ i = simp length-take (omega arith) in
    let own : r.client < 256 = omega arith in
    let counted = c.get-index.ensures ∙ so_far.counts r.client own in
    record {
      placed = rw c.in_ok-push.ensures.items (one_placed all i r within is c.loop-position.placed.items (placed_requests [] all) c.get-index.result long counted so_far.placed);
      counts = λ client some.
          c.set.ensures client
          ∙ ap (λ n. cond (client == r.client) n (number_of c.loop-position.counts client)) (c.in_ok-more.ensures ∙ ap (λ n. n + 1) counted)
          ∙ one_counted all i r within is client (number_of c.loop-position.counts client) (so_far.counts client some);
    }
