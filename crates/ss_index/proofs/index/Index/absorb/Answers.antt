use Rattle.std.proofs.Common.{◌≡◌, ◌++◌, ◌∷◌, [], sym, ap, subst, ◌∙◌}
use Rattle.ss_index.specs.Parts.{AreDealt, empty_part, index_of}
use Rattle.ss_index.proofs.Dealing.{absorbed}
use Rattle.ss_index.proofs.index.Index.absorb.Goals as goal

pub invariant_of-self-2 : goal.invariant_of-self-2
invariant_of-self-2 c =
    let s = c.self.inside in
    let o = c.other.inside in
    let pushed : c.push_part.new.others.items ≡ s.others.items ++ o.first ∷ [] = c.in_default.ensures.ok ∙ ap (λ y. s.others.items ++ y ∷ []) c.replace-part.ensures.value in
    let empty = c.new-empty.ensures ∙ ap empty_part c.number.ensures in
    (absorbed s.columns o.columns s.first o.first s.others.items o.others.items c.args.self.now c.args.other.now c.self.invariant c.self.view_is c.other.invariant c.other.view_is c.requires c.push_part.new.others.items c.new-empty.result pushed empty).0

pub invariant_of-other-in_default : goal.invariant_of-other-in_default
invariant_of-other-in_default c =
    let s = c.self.inside in
    let o = c.other.inside in
    let pushed : c.push_part.new.others.items ≡ s.others.items ++ o.first ∷ [] = c.in_default.ensures.ok ∙ ap (λ y. s.others.items ++ y ∷ []) c.replace-part.ensures.value in
    let empty = c.new-empty.ensures ∙ ap empty_part c.number.ensures in
    (subst (λ y. AreDealt y o.others.items) (sym c.replace-part.ensures.after) (absorbed s.columns o.columns s.first o.first s.others.items o.others.items c.args.self.now c.args.other.now c.self.invariant c.self.view_is c.other.invariant c.other.view_is c.requires c.push_part.new.others.items c.new-empty.result pushed empty).1)

pub returns-clause-ok : goal.returns-clause-ok
returns-clause-ok c =
    let s = c.self.inside in
    let o = c.other.inside in
    let pushed : c.push_part.new.others.items ≡ s.others.items ++ o.first ∷ [] = c.in_default.ensures.ok ∙ ap (λ y. s.others.items ++ y ∷ []) c.replace-part.ensures.value in
    let empty = c.new-empty.ensures ∙ ap empty_part c.number.ensures in
    let all = absorbed s.columns o.columns s.first o.first s.others.items o.others.items c.args.self.now c.args.other.now c.self.invariant c.self.view_is c.other.invariant c.other.view_is c.requires c.push_part.new.others.items c.new-empty.result pushed empty in
    (all.2, ap (λ y. index_of o.columns y o.others.items) c.replace-part.ensures.after ∙ all.3)
