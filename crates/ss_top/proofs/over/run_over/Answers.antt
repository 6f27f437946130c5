use Rattle.std.proofs.Common.{◌≡◌, ◌+◌, ℕ, suc, inl, inr, true, false, refl, subst, arith}
use Rattle.std.proofs.lemmas.Bool.{false≢true}
use Rattle.ss_top.specs.Turns.{HasCome}
use Rattle.ss_top.proofs.LastTurns.{may_at, none_at_first, over_of, strong_within}
use Rattle.ss_top.proofs.over.run_over.Goals as goal

pub loop-init : goal.loop-init
loop-init g c = record { within = omega arith; has = (refl, refl); on = tt }

pub incarnate-requires-clause-on : goal.incarnate-requires-clause-on
incarnate-requires-clause-on g c κs within = c.loop.invariant.on

pub incarnate-requires-clause-alone : goal.incarnate-requires-clause-alone
incarnate-requires-clause-alone g c κs within = inr (strong_within c.args.mode c.args.restarts c.loop.counter c.loop-test.true c.requires.restarts)

pub returns-in_default : goal.returns-in_default
returns-in_default g c =
    let before = c.loop-test.true in
    record {
      comes = record {
        again = c.loop.counter;
        within = c.loop.invariant.within;
        last = false;
        at_last = λ is. absurd (false≢true is);
        not_before = λ is. absurd (omega (arith, is, before));
        may = inr (strong_within c.args.mode c.args.restarts c.loop.counter before c.requires.restarts);
        comes = c.incarnate.ensures.comes c.loop.counter c.args.disk (inr (strong_within c.args.mode c.args.restarts c.loop.counter before c.requires.restarts)) c.loop.invariant.has;
        over = over_of c.incarnate.result (λ past disk is. c.in_default.not-Failed past disk is);
      };
      texts = c.incarnate.ensures.texts;
    }

pub loop-preserved : goal.loop-preserved
loop-preserved g c =
    let before = c.loop-test.true in
    let next : suc c.loop.counter ≡ c.loop.counter + 1 = omega arith in
    record {
      within = omega (arith, before);
      has = subst (λ (n : ℕ). HasCome {D = g.row.D.Denot} g.D.Disk.kind c.args.limit c.args.catalog.now c.args.requests.now n c.args.disk c.in-Failed.failed c.in-Failed.so_far) next
          (c.in-Failed.ensures.comes c.loop.counter c.args.disk (inr (strong_within c.args.mode c.args.restarts c.loop.counter before c.requires.restarts)) c.loop.invariant.has);
      on = c.in-Failed.ensures.on;
    }

pub incarnate-requires-2-clause-on : goal.incarnate-requires-2-clause-on
incarnate-requires-2-clause-on g c κs within = c.loop.invariant.on

pub incarnate-requires-2-clause-alone : goal.incarnate-requires-2-clause-alone
incarnate-requires-2-clause-alone g c κs within =
    elim (may_at c.args.mode c.args.restarts c.loop.counter c.loop.invariant.within c.requires.restarts) [
      | inl first ↦ inl (refl, none_at_first g.D.Disk.kind c.args.limit c.args.catalog.now c.args.requests.now c.loop.counter c.args.disk c.loop.left c.loop.begun first c.loop.invariant.has)
      | inr strong ↦ inr strong
    ]

pub returns-clause-comes : goal.returns-clause-comes
returns-clause-comes g c =
    let behind = c.loop-test.false in
    let within = c.loop.invariant.within in
    record {
      again = c.loop.counter;
      within = within;
      last = true;
      at_last = λ is. omega (arith, behind, within);
      not_before = λ is. refl;
      may = may_at c.args.mode c.args.restarts c.loop.counter within c.requires.restarts;
      comes = c.incarnate-2.ensures.comes c.loop.counter c.args.disk (may_at c.args.mode c.args.restarts c.loop.counter within c.requires.restarts) c.loop.invariant.has;
      over = c.incarnate-2.ensures.over refl;
    }
