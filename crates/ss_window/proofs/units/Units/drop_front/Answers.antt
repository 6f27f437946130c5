use Rattle.std.proofs.Common.{subst, arith}
use Rattle.std.proofs.lemmas.Grind.{common_steps}
use Rattle.std.proofs.lemmas.List.{length-append}
use Rattle.ss_window.specs.WindowValue.{rows_in}
use Rattle.ss_window.specs.Numbers.{AreNumbered}
use Rattle.ss_window.proofs.Numbered.{numbered_without_first}
use Rattle.ss_window.proofs.units.Units.drop_front.Goals as goal

pub overflow_add-self : goal.overflow_add-self
overflow_add-self c =
    let held = c.loop.self-inside in
    let unit = c.in-Some.unit in
    let left = c.pop_front.new.self.items in
    let numbered = subst (AreNumbered held.first held.next held.unit_ends.items) c.in-Some.ensures.items c.loop.invariant.numbered in
    let rows = length-append unit (rows_in left) in
    omega (arith, numbered.last)

pub loop-preserved : goal.loop-preserved
loop-preserved c =
    let held = c.loop.self-inside in
    let unit = c.in-Some.unit in
    let left = c.pop_front.new.self.items in
    let numbered = numbered_without_first held.first held.next held.unit_ends.items left unit (subst (AreNumbered held.first held.next held.unit_ends.items) c.in-Some.ensures.items c.loop.invariant.numbered) in
    record {
      left = grind (arith, common_steps);
      same = c.loop.invariant.same;
      numbered = rw (c.len.ensures, c.pop_front-end.ensures.rest) numbered;
    }
