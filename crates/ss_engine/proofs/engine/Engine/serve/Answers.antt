use Rattle.std.proofs.Common.{◌≡◌, rules, ℕ, subst}
use Rattle.ss_hand.specs.Hands.{WereTaken}
use Rattle.ss_engine.specs.Pumped.{IsLeastOf}
use Rattle.ss_engine.proofs.Pumps.{pumped_later}
use Rattle.ss_engine.proofs.Touching.{members_run, holds_touched}
use Rattle.ss_engine.proofs.Trying.{of_ok}
use Rattle.ss_engine.proofs.engine.Engine.serve.Goals as goal

pub take_set-requires-clause-some : goal.take_set-requires-clause-some
take_set-requires-clause-some g c = (c.touched-least.result.0, (c.touched-least.ensures.set c.touched-least.result.0).1 c.touched-least.ensures.least.0)

pub take_set-requires-clause-below : goal.take_set-requires-clause-below
take_set-requires-clause-below g c = members_run g.I.Life.catalog g.I.Life.parts c.args.job.entry c.touched-least.result.1 c.touched-least.ensures.set c.self.invariant.some

pub serve_in_hand-requires : goal.serve_in_hand-requires
serve_in_hand-requires g c =
    let w : WereTaken {I = g.row.I.Denot} g.I.Life.catalog g.I.Life.parts g.I.Life.opening c.args.self.now c.touched-least.result.1 c.take_set.new.note c.in-Ok.hand c.in-Ok.turns
    = of_ok c.take_set.result (c.in-Ok.hand, c.in-Ok.turns) (λ t. WereTaken {I = g.row.I.Denot} g.I.Life.catalog g.I.Life.parts g.I.Life.opening c.args.self.now c.touched-least.result.1 c.take_set.new.note t.0 t.1)
    c.in-Ok.is c.take_set.ensures.ok in
    let same : c.touched-least.result.0 ≡ c.args.p = search (rules, c.if-least-p.false) in (
      w.held,
      record {
        in_hand = w.in_hand;
        touched = holds_touched g.I.Life.catalog g.I.Life.parts c.args.job.entry c.touched-least.result.1 w.held c.touched-least.ensures.set w.members;
        least = subst (λ (p : ℕ). IsLeastOf g.I.Life.catalog g.I.Life.parts c.args.job.entry p) same c.touched-least.ensures.least;
        know_one = w.know_one;
      },
      w.turns_are,
    )

pub returns-in-Ok : goal.returns-in-Ok
returns-in-Ok g c =
    pumped_later g.I.Life.catalog g.I.Life.parts g.I.Life.opening g.I.Life.first g.I.Life.limit c.args.p c.args.note.now c.take_set.new.note c.serve_in_hand.new.note c.serve_in_hand.result
    c.take_set.ensures.note c.serve_in_hand.ensures
