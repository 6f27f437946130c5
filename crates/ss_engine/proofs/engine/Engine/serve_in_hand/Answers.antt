use Rattle.ss_engine.proofs.Serves.{run_pumps, run_says, said_fits}
use Rattle.ss_engine.proofs.engine.Engine.serve_in_hand.Goals as goal

pub served-did-requires : goal.served-did-requires
served-did-requires g c =
    said_fits g.I.Life.catalog g.I.Life.parts g.I.Life.first g.I.Life.limit c.args.job.entry c.args.hand.marks c.args.job.mark c.execute_asked-said.new.hand.marks c.execute_asked-said.new.mark
    c.execute_asked-said.result c.execute_asked-said.ensures.ran c.args.job.fits

pub reply-requires-clause-may_say : goal.reply-requires-clause-may_say
reply-requires-clause-may_say g c =
    run_says {I = g.row.I.Denot} g.I.Life.catalog g.I.Life.parts g.I.Life.opening g.I.Life.first g.I.Life.limit c.args.p c.requires.0 c.args.note.now c.args.hand c.args.job.entry c.requires.1
    c.args.job.mark c.execute_asked-said.new.mark c.meet.new.mark c.meet.new.note c.execute_asked-said.new.hand.marks c.execute_asked-said.result c.execute_asked-said.ensures.ran
    c.meet.ensures.mark c.meet.ensures.note c.meet.ensures.one c.args.job.ticket c.args.job.own c.args.job.mark_is c.args.job.counted

pub returns : goal.returns
returns g c =
    run_pumps {I = g.row.I.Denot} g.I.Life.catalog g.I.Life.parts g.I.Life.opening g.I.Life.first g.I.Life.limit c.args.p c.requires.0 c.args.note.now c.args.hand c.args.job.entry c.requires.1
    c.args.job.mark c.execute_asked-said.new.mark c.meet.new.mark c.meet.new.note c.execute_asked-said.new.hand.marks c.execute_asked-said.result c.execute_asked-said.ensures.ran
    c.meet.ensures.mark c.meet.ensures.note c.meet.ensures.one c.served-did.result c.served-did.ensures
