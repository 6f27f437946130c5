use Rattle.std.proofs.Common.{arith}
use Rattle.ss_commitlog.proofs.CallerLemmas.{follows_on, on_and_on, on_itself}
use Rattle.ss_settle.proofs.Looks.{first_low, first_ready, first_still, first_to, idle_still, idle_to}
use Rattle.ss_settle.proofs.settling.next_ready.Goals as goal

pub loop-p-init : goal.loop-p-init
loop-p-init g c = record { on = on_itself g.I.Life.catalog g.I.Life.parts c.args.mark.now; low = tt; some = tt; first = tt; idle = λ p low. absurd (omega (arith, low)) }

pub loop-p-preserved : goal.loop-p-preserved
loop-p-preserved g c =
    let mark = c.ready_at-ready.new.note in
    let set = c.ready_at-ready.result in
    let next = follows_on g.I.Life.catalog g.I.Life.parts g.I.Life.limit c.loop-p.mark mark c.ready_at-ready.ensures.note in
    let was = c.loop-p.invariant in
    record {
      on = on_and_on g.I.Life.catalog g.I.Life.parts c.args.mark.now c.loop-p.mark mark was.on next;
      low = first_low c.args.ranks.now set c.loop-p.found c.first_ranked-found.result c.first_ranked-found.ensures.some;
      some = first_ready g.I.Life.catalog g.I.Life.parts g.I.Life.opening c.loop-p.p mark set c.ready_at-ready.ensures.ready c.args.ranks.now c.args.mark.now c.loop-p.mark was.on next c.loop-p.found was.some
          c.first_ranked-found.result c.first_ranked-found.ensures.some;
      first = first_still g.I.Life.catalog g.I.Life.parts g.I.Life.opening c.loop-p.p mark set c.ready_at-ready.ensures.ready c.requires c.args.ranks.now c.args.mark.now c.loop-p.mark was.on next c.loop-p.found was.first was.idle
          c.first_ranked-found.result c.first_ranked-found.ensures.some;
      idle = idle_still g.I.Life.catalog g.I.Life.parts g.I.Life.opening c.loop-p.p mark set c.ready_at-ready.ensures.ready c.requires c.args.mark.now c.loop-p.mark was.on next c.loop-p.found was.idle
          c.first_ranked-found.result c.first_ranked-found.ensures.none;
    }

pub returns-clause-first : goal.returns-clause-first
returns-clause-first g c =
    let past = c.loop-p-test.false in
    let parts = c.args.works.now.parts_are in
    first_to g.I.Life.catalog g.I.Life.parts g.I.Life.opening c.args.ranks.now c.args.mark.now c.loop-p.mark c.loop-p.p (omega (arith, past, parts)) c.loop-p.found c.loop-p.invariant.first

pub returns-clause-none : goal.returns-clause-none
returns-clause-none g c =
    let past = c.loop-p-test.false in
    let parts = c.args.works.now.parts_are in
    idle_to g.I.Life.catalog g.I.Life.parts g.I.Life.opening c.args.mark.now c.loop-p.mark c.loop-p.p (omega (arith, past, parts)) c.loop-p.found c.loop-p.invariant.idle
