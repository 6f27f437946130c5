use Rattle.std.proofs.Common.{◌<◌, rules, ℕ, List, length, slice_index_or, sym, ap, subst, arith}
use Rattle.ss_engine.proofs.Touching.{homes_few, homes_run}
use Rattle.ss_engine.proofs.engine.Engine.wake.Goals as goal

pub has-requires : goal.has-requires
has-requires g c =
    let few = homes_few g.I.Life.catalog c.self.invariant.accepted g.I.Life.parts c.self.invariant.some c.self.inside.homes c.self.invariant.homes_are in
    let same = ap (λ (l : List ℕ). length l) c.as_slice-home-items.ensures in
    let test = c.loop-procedure-test.true in
    omega arith

pub overflow_cast-procedure : goal.overflow_cast-procedure
overflow_cast-procedure g c =
    let few = homes_few g.I.Life.catalog c.self.invariant.accepted g.I.Life.parts c.self.invariant.some c.self.inside.homes c.self.invariant.homes_are in
    let same = ap (λ (l : List ℕ). length l) c.as_slice-home-items.ensures in
    let test = c.loop-procedure-test.true in
    let low : c.loop-procedure.procedure < 64 = omega arith in
    search (rules, low)

pub overflow_cast-procedure-then-has : goal.overflow_cast-procedure-then-has
overflow_cast-procedure-then-has g c =
    let few = homes_few g.I.Life.catalog c.self.invariant.accepted g.I.Life.parts c.self.invariant.some c.self.inside.homes c.self.invariant.homes_are in
    let same = ap (λ (l : List ℕ). length l) c.as_slice-home-items.ensures in
    let test = c.loop-procedure-test.true in
    let low : c.loop-procedure.procedure < 64 = omega arith in
    search (rules, low)

pub put_hint-requires-clause-part : goal.put_hint-requires-clause-part
put_hint-requires-clause-part g c =
    let same = ap (λ (l : List ℕ). length l) c.as_slice-home-items.ensures in
    let test = c.loop-procedure-test.true in
    let low : c.loop-procedure.procedure < length c.self.inside.homes = omega arith in
    subst (λ (l : List ℕ). slice_index_or l c.loop-procedure.procedure 0 < g.I.Life.parts) (sym c.as_slice-home-items.ensures)
    (homes_run g.I.Life.catalog c.self.invariant.accepted g.I.Life.parts c.self.invariant.some c.self.inside.homes c.self.invariant.homes_are c.loop-procedure.procedure 0 low)

pub put_hint-requires-clause-hint : goal.put_hint-requires-clause-hint
put_hint-requires-clause-hint g c =
    let few = homes_few g.I.Life.catalog c.self.invariant.accepted g.I.Life.parts c.self.invariant.some c.self.inside.homes c.self.invariant.homes_are in
    let same = ap (λ (l : List ℕ). length l) c.as_slice-home-items.ensures in
    let test = c.loop-procedure-test.true in
    omega arith
