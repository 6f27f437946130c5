use Rattle.std.proofs.Common.{refl, sym, subst}
use Rattle.ss_lanes.specs.Owning.{IsOwn}
use Rattle.ss_lanes.specs.Replies.{ReplyView}
use Rattle.ss_lanes.proofs.CallerLemmas.{came_back, submitted}
use Rattle.ss_engine.proofs.engine.Engine.returned.Goals as goal

pub answered-requires-clause-answered : goal.answered-requires-clause-answered
answered-requires-clause-answered g c =
    let r : ReplyView = record { ticket = c.reply.inside.ticket; mark = c.reply.inside.mark; said = c.reply.inside.said } in
    let own = subst (IsOwn c.args.ticket c.args.what.now) (sym c.reply.view_is) c.awaited-reply.ensures.own in
    (came_back g.I.Life.catalog g.I.Life.parts g.I.Life.clients g.I.Life.first g.I.Life.limit c.args.ticket c.args.due c.args.what.now c.args.answers c.requires.lane.0 c.args.note c.awaited-reply.new.note c.meet.new.mark c.meet.new.note r
    c.requires.lane.1 c.requires.going c.reply.invariant own c.awaited-reply.ensures.note c.meet.ensures.mark c.meet.ensures.note c.meet.ensures.one).answered

pub returns : goal.returns
returns g c =
    let r : ReplyView = record { ticket = c.reply.inside.ticket; mark = c.reply.inside.mark; said = c.reply.inside.said } in
    let own = subst (IsOwn c.args.ticket c.args.what.now) (sym c.reply.view_is) c.awaited-reply.ensures.own in
    let came = came_back g.I.Life.catalog g.I.Life.parts g.I.Life.clients g.I.Life.first g.I.Life.limit c.args.ticket c.args.due c.args.what.now c.args.answers c.requires.lane.0 c.args.note c.awaited-reply.new.note c.meet.new.mark c.meet.new.note r
    c.requires.lane.1 c.requires.going c.reply.invariant own c.awaited-reply.ensures.note c.meet.ensures.mark c.meet.ensures.note c.meet.ensures.one in
    submitted g.I.Life.catalog g.I.Life.parts g.I.Life.first g.I.Life.limit c.args.ticket c.args.due c.args.what.now c.args.answers c.args.note c.meet.new.note _ c.answered.result c.reply.inside.said
    refl c.requires.going.0 c.answered.ensures.client c.answered.ensures.start c.answered.ensures.note c.answered.ensures.due c.answered.ensures.answers c.answered.ensures.spare came.on came.right
