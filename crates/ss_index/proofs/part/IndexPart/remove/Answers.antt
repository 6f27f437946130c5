use Rattle.std.proofs.Common.{◌≡◌, sym, ap, subst, ◌∙◌}
use Rattle.std.specs.List.{prefix_len}
use Rattle.ss_index.specs.Pairs.{Pair}
use Rattle.ss_index.specs.Entries.{pair_in, AreRising, is_before_pair}
use Rattle.ss_index.specs.Parts.{PartValue, part_value, without_pair}
use Rattle.ss_index.specs.Merges.{aim_pair}
use Rattle.ss_index.proofs.Rising.{rising_parted, before_down, rising_less, listed_less}
use Rattle.ss_index.proofs.part.IndexPart.remove.Goals as goal

pub remove-requires : goal.remove-requires
remove-requires c =
    let p : Pair = aim_pair c.args.aim.now in
    rising_parted (is_before_pair p) (before_down p) c.self.inside.entries c.self.invariant

pub invariant_of-self : goal.invariant_of-self
invariant_of-self c =
    let p : Pair = aim_pair c.args.aim.now in
    subst AreRising (sym c.remove.ensures) (rising_less c.self.inside.entries (prefix_len (λ x. is_before_pair p (pair_in x)) c.self.inside.entries) c.self.invariant)

pub returns : goal.returns
returns c =
    let p : Pair = aim_pair c.args.aim.now in
    let P : PartValue → Type 0 = λ x. part_value c.self.inside.number c.remove.new.self ≡ without_pair p x in
    subst P c.self.view_is (ap (part_value c.self.inside.number) c.remove.ensures ∙ listed_less c.self.inside.number c.self.inside.entries p)
