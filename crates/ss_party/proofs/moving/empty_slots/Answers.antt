use Rattle.std.proofs.Common.{◌∙◌, sym, ap, None, Some, Option, List, [], ◌∷◌, ◌++◌, map, reverse}
use Rattle.std.proofs.lemmas.List.{reverse-append}
use Rattle.ss_party.proofs.Lists.{none_there}
use Rattle.ss_party.proofs.moving.empty_slots.Goals as goal

pub unreachable-requires : goal.unreachable-requires
unreachable-requires g c =
    let i = c.loop-slot.invariant in
    let a = c.requires.all in
    let e = c.in-Some.ensures.items in
    let new = c.pop.new.self.items in
    let front = map (λ (y : g.row.T.Denot). Some y) c.loop-slot.items.items in
    let tail : List (Option g.row.T.Denot) → List (Option g.row.T.Denot) = λ l. front ++ reverse l in
    let one : Option g.row.T.Denot → List (Option g.row.T.Denot) = λ o. front ++ reverse (new ++ o ∷ []) in
    none_there c.loop-slot.items.items a.0 (reverse new) (sym a.1 ∙ (i.split ∙ (ap tail e ∙ (ap one c.in_default-slot.is ∙ ap (λ l. front ++ l) (reverse-append new (None ∷ []))))))
