use Rattle.std.proofs.Common.{◌≡◌, List, [], ◌∷◌, ◌++◌, sym, ap, subst, ◌∙◌}
use Rattle.ss_table.specs.declared.part.Part.{Part}
use Rattle.ss_table.specs.Parts.{table_of, IsUnited}
use Rattle.ss_table.proofs.Joined.{joined}
use Rattle.ss_table.proofs.Shells.{shell_kept, shell_is}
use Rattle.ss_table.proofs.table.Table.absorb.Goals as goal

pub invariant_of-self-2 : goal.invariant_of-self-2
invariant_of-self-2 c =
    let s = c.self.inside in
    let o = c.other.inside in
    let both = joined s.limit s.route s.first.rows.key (s.first ∷ s.others) o.limit o.route o.first.rows.key o.first o.others c.args.self.now c.args.other.now c.self.invariant c.self.view_is c.other.invariant c.other.view_is
    (c.requires.key, c.requires.route, c.requires.part, c.requires.home, c.requires.settled) in
    let part : ◌≡◌ {A = Part} (record { number = o.first.number; rows = c.take.result }) o.first = (λ i. record { number = o.first.number; rows = c.take.ensures.all i }) in
    subst (λ l. IsUnited s.route s.first.rows.key (s.first ∷ l)) (sym (c.in_default.ensures.ok ∙ ap (λ (p : Part). s.others ++ p ∷ []) part)) both.1

pub invariant_of-other-in_default : goal.invariant_of-other-in_default
invariant_of-other-in_default c =
    let s = c.self.inside in
    let o = c.other.inside in
    let both = joined s.limit s.route s.first.rows.key (s.first ∷ s.others) o.limit o.route o.first.rows.key o.first o.others c.args.self.now c.args.other.now c.self.invariant c.self.view_is c.other.invariant c.other.view_is
    (c.requires.key, c.requires.route, c.requires.part, c.requires.home, c.requires.settled) in
    shell_kept o.limit o.route o.first o.others c.args.other.now c.other.view_is both.0 c.other.invariant.route c.other.invariant.each.0.below c.take.new.self c.take.ensures.empty

pub returns-clause-ok : goal.returns-clause-ok
returns-clause-ok c =
    let s = c.self.inside in
    let o = c.other.inside in
    let both = joined s.limit s.route s.first.rows.key (s.first ∷ s.others) o.limit o.route o.first.rows.key o.first o.others c.args.self.now c.args.other.now c.self.invariant c.self.view_is c.other.invariant c.other.view_is
    (c.requires.key, c.requires.route, c.requires.part, c.requires.home, c.requires.settled) in
    let part : ◌≡◌ {A = Part} (record { number = o.first.number; rows = c.take.result }) o.first = (λ i. record { number = o.first.number; rows = c.take.ensures.all i }) in (
      ap (λ l. table_of s.limit s.route s.first.rows.key (s.first ∷ l)) (c.in_default.ensures.ok ∙ ap (λ (p : Part). s.others ++ p ∷ []) part) ∙ both.2,
      shell_is o.limit o.route o.first o.others c.args.other.now c.other.view_is both.0 c.other.invariant.route c.other.invariant.each.0.below c.take.new.self c.take.ensures.empty,
    )
