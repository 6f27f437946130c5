use Rattle.ss_commitlog.proofs.CallerLemmas.{on_and_on}
use Rattle.ss_engine.proofs.Trying.{tried_pumps}
use Rattle.ss_engine.proofs.engine.Engine.pump.Goals as goal

pub returns-in-Some-pump_once : goal.returns-in-Some-pump_once
returns-in-Some-pump_once g c =
    tried_pumps g.I.Life.catalog g.I.Life.parts g.I.Life.opening g.I.Life.first g.I.Life.limit c.args.p c.args.note.now c.loop.note c.pump_once.new.note c.pump_once.result c.in-Some-pump_once.did c.loop.invariant.2 c.pump_once.ensures c.in-Some-pump_once.is

pub loop-preserved : goal.loop-preserved
loop-preserved g c = (tt, tt, on_and_on g.I.Life.catalog g.I.Life.parts c.args.note.now c.loop.note c.pump_once.new.note c.loop.invariant.2 c.pump_once.ensures.on)
