use Rattle.ss_engine.proofs.engine.Engine.submit.Goals as goal

pub returns-in_default : goal.returns-in_default
returns-in_default g c = c.unsent.ensures g.I.Life.limit c.args.request.now.what

pub send-requires-clause-part : goal.send-requires-clause-part
send-requires-clause-part g c = c.touched-p.ensures.below

pub returns-then-faults-ne0 : goal.returns-then-faults-ne0
returns-then-faults-ne0 g c = c.halted.ensures g.I.Life.limit c.args.request.now.what
