use Rattle.ss_commitlog.proofs.CallerLemmas.{on_and_on}
use Rattle.ss_engine.proofs.engine.Engine.awaited.Goals as goal

pub loop-preserved-in-Idle : goal.loop-preserved-in-Idle
loop-preserved-in-Idle g c =
    (tt, tt, on_and_on g.I.Life.catalog g.I.Life.parts c.args.note.now c.loop.note c.pump.new.note c.loop.invariant.2 c.pump.ensures.on)

pub loop-preserved-in_default-pump : goal.loop-preserved-in_default-pump
loop-preserved-in_default-pump g c =
    (tt, tt, on_and_on g.I.Life.catalog g.I.Life.parts c.args.note.now c.loop.note c.pump.new.note c.loop.invariant.2 c.pump.ensures.on)
