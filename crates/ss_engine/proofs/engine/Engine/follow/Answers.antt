use Rattle.ss_commitlog.proofs.CallerLemmas.{follows_on}
use Rattle.ss_engine.proofs.Trying.{tried_later}
use Rattle.ss_engine.proofs.engine.Engine.follow.Goals as goal

pub returns : goal.returns
returns g c =
    tried_later g.I.Life.catalog g.I.Life.parts g.I.Life.opening g.I.Life.first g.I.Life.limit c.args.p c.args.note.now c.ready_at-ready.new.note c.step.new.note c.step.result
    (follows_on g.I.Life.catalog g.I.Life.parts g.I.Life.limit c.args.note.now c.ready_at-ready.new.note c.ready_at-ready.ensures.note) c.step.ensures
