use Rattle.std.proofs.Common.{◌≡◌, ◌+◌, [], ◌∷◌, ◌++◌, length, ap, ◌∙◌, rules}
use Rattle.ss_window.proofs.Numbered.{numbered_more}
use Rattle.ss_window.proofs.units.Units.push.Goals as goal

pub invariant_of-self-in-Ok : goal.invariant_of-self-in-Ok
invariant_of-self-in-Ok c =
    let held = c.self.inside in
    let units = held.ring.items in
    let unit_ends = c.record_unit_ends.new.unit_ends.items in
    let all : length unit_ends ≡ length units = search rules in
    let next : c.in-Some.next ≡ held.next + length c.args.unit = search rules in
    let noted : c.push_back_reserved.new.self.items ≡ unit_ends ++ c.in-Some.next ∷ [] = c.push_back_reserved.ensures.items ∙ ap (λ es. es ++ c.in-Some.next ∷ []) c.reserve.ensures.items in
    let numbered = numbered_more held.first held.next unit_ends units c.args.unit c.self.invariant.last c.record_unit_ends.ensures.right all in
    rw (c.in-Ok.ensures.items, noted, next) numbered
