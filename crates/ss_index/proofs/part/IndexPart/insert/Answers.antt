use Rattle.std.proofs.Common.{◌≡◌, sym, ap, subst, ◌∙◌}
use Rattle.std.specs.Prelude.{OnOk}
use Rattle.ss_index.specs.Pairs.{Pair}
use Rattle.ss_index.specs.Entries.{pair_in, AreRising, is_before_pair}
use Rattle.ss_index.specs.Parts.{PartValue, part_value, with_pair}
use Rattle.ss_index.specs.Merges.{aim_pair}
use Rattle.ss_lemmas.proofs.Results.{on_so, on_either}
use Rattle.ss_index.proofs.Rising.{rising_parted, before_down, rising_more, listed_more}
use Rattle.ss_index.proofs.part.IndexPart.insert.Goals as goal

pub insert-requires : goal.insert-requires
insert-requires c =
    let p : Pair = aim_pair c.args.aim.now in
    rising_parted (is_before_pair p) (before_down p) c.self.inside.entries c.self.invariant

pub invariant_of-self : goal.invariant_of-self
invariant_of-self c =
    let p : Pair = aim_pair c.args.aim.now in
    on_either c.insert.result _ _ (AreRising c.insert.new.self)
    (λ e. subst AreRising (sym e) (rising_more c.self.inside.entries c.args.entry p c.requires c.self.invariant))
    (λ e. subst AreRising (sym e) c.self.invariant) c.insert.ensures.ok c.insert.ensures.err

pub returns-clause-ok : goal.returns-clause-ok
returns-clause-ok c =
    let p : Pair = aim_pair c.args.aim.now in
    let P : PartValue → Type 0 = λ x. OnOk c.insert.result (part_value c.self.inside.number c.insert.new.self ≡ with_pair (pair_in c.args.entry) x) in
    subst P c.self.view_is (on_so c.insert.result _ _ (λ e. ap (part_value c.self.inside.number) e ∙ listed_more c.self.inside.number c.self.inside.entries c.args.entry p c.requires) c.insert.ensures.ok)
