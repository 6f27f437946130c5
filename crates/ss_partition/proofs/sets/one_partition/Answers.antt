use Rattle.std.proofs.Common.{◌==◌, false, refl, sym, subst}
use Rattle.ss_partition.specs.PartSets.{HasJust}
use Rattle.ss_partition.proofs.PartSets.{none_in, one_more}
use Rattle.ss_partition.proofs.sets.one_partition.Goals as goal

pub returns : goal.returns
returns c =
    let was : HasJust c.empty-set.result (λ p. false) = subst (λ z. HasJust z (λ p. false)) (sym c.empty-set.ensures) none_in in
    one_more c.empty-set.result c.insert.new.self c.args.partition (λ p. false) (λ p. p == c.args.partition) was c.insert.ensures (λ i. refl)
