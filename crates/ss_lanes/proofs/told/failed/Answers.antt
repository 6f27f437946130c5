use Rattle.std.proofs.Common.{ap, sym, subst}
use Rattle.ss_commitlog.specs.Tokens.{Known}
use Rattle.ss_lanes.specs.declared.due.Due.{Due}
use Rattle.ss_lanes.specs.Lanes.{IsLane}
use Rattle.ss_lanes.proofs.Meeting.{lane_failed}
use Rattle.ss_lanes.proofs.told.failed.Goals as goal

pub lane_of-requires : goal.lane_of-requires
lane_of-requires g c =
    let seen = c.see-posted.ensures.seen in
    let more = c.see-posted.ensures.more in
    subst (λ (d : Due). IsLane g.I.Life.clients g.I.Life.first c.args.ticket d c.see-posted.new.mark c.args.note c.args.answers.items) (sym c.failed_at-due.ensures)
    (lane_failed g.I.Life.clients g.I.Life.first c.args.ticket c.args.due c.args.mark c.args.note c.see-posted.new.mark c.args.answers.items c.see-posted.result.count c.see-posted.result.faults c.requires.lane c.requires.going c.requires.failed
    (ap (λ (k : Known). k.role) seen) (ap (λ (k : Known). k.list) seen) (ap (λ (k : Known). k.count) seen) (ap (λ (k : Known). k.faults) seen) more.0 more.1)
