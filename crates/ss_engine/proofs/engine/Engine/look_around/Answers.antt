use Rattle.std.proofs.Common.{ℕ, Option, IfNone, subst}
use Rattle.ss_commitlog.specs.Right.{known_database}
use Rattle.ss_engine.specs.Least.{NoneBelow}
use Rattle.ss_commitlog.proofs.CallerLemmas.{follows_on}
use Rattle.ss_settle.proofs.CallerLemmas.{ready_below}
use Rattle.ss_engine.proofs.Trying.{tried_later}
use Rattle.ss_engine.proofs.engine.Engine.look_around.Goals as goal

pub returns-in-None : goal.returns-in-None
returns-in-None g c =
    let none : NoneBelow 64 c.ready_at-ready.result = subst (λ (o : Option ℕ). IfNone o (NoneBelow 64 c.ready_at-ready.result)) c.in-None.is c.first_of.ensures.none in
    record {
      on = follows_on g.I.Life.catalog g.I.Life.parts g.I.Life.limit c.args.note.now c.ready_at-ready.new.note c.ready_at-ready.ensures.note;
      did_is = λ q ready.
          none q (ready_below g.I.Life.catalog c.self.invariant.accepted g.I.Life.parts (known_database g.I.Life.catalog g.I.Life.opening c.ready_at-ready.new.note) c.args.p q ready) ((c.ready_at-ready.ensures.ready q).1 ready);
    }

pub returns-in-Some : goal.returns-in-Some
returns-in-Some g c =
    tried_later g.I.Life.catalog g.I.Life.parts g.I.Life.opening g.I.Life.first g.I.Life.limit c.args.p c.args.note.now c.ready_at-ready.new.note c.step.new.note c.step.result
    (follows_on g.I.Life.catalog g.I.Life.parts g.I.Life.limit c.args.note.now c.ready_at-ready.new.note c.ready_at-ready.ensures.note) c.step.ensures
