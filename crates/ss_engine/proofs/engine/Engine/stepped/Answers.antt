use Rattle.ss_engine.proofs.Trying.{steps_below, steps_run}
use Rattle.ss_engine.proofs.engine.Engine.stepped.Goals as goal

pub put_hint-requires-clause-part : goal.put_hint-requires-clause-part
put_hint-requires-clause-part g c = steps_run g.I.Life.catalog g.I.Life.parts c.self.invariant.some c.args.p c.args.procedure c.requires.home

pub put_hint-requires-clause-hint : goal.put_hint-requires-clause-hint
put_hint-requires-clause-hint g c = steps_below g.I.Life.catalog c.self.invariant.accepted g.I.Life.parts c.args.p c.args.procedure c.requires.home
