use Rattle.std.proofs.Common.{◌≡◌, length, subst, rules}
use Rattle.ss_window.specs.Numbers.{AreNumbered}
use Rattle.ss_window.proofs.Numbered.{numbered_without_last}
use Rattle.ss_window.proofs.units.Units.pop.Goals as goal

pub invariant_of-self : goal.invariant_of-self
invariant_of-self c =
    let held = c.self.inside in
    let left = c.pop_back.new.self.items in
    let numbered = numbered_without_last held.first held.next held.unit_ends.items left c.in-Some.unit (subst (AreNumbered held.first held.next held.unit_ends.items) c.in-Some.ensures.items c.self.invariant) in
    let many : c.len-in-Some.result ≡ length left = search rules in
    rw (c.len.ensures, c.truncate.ensures.items, many) numbered
