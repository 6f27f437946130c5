use Rattle.std.proofs.Common.{◌==◌, ◌%◌, ◌+◌, ℕ, Bool, false, take, get_or, sym, subst}
use Rattle.std.proofs.lemmas.List.Folds.{list_any_more}
use Rattle.std.specs.List.{list_any}
use Rattle.ss_partition.specs.PartSets.{HasJust}
use Rattle.ss_partition.proofs.PartSets.{none_in, one_more}
use Rattle.ss_partition.proofs.sets.listed_partitions.Goals as goal

pub loop-part-init : goal.loop-part-init
loop-part-init c = subst (λ z. HasJust z (λ p. false)) (sym c.empty-set.ensures) none_in

pub loop-part-preserved : goal.loop-part-preserved
loop-part-preserved c =
    let n = c.args.parts in
    let listed = c.args.listed.now in
    let k = c.loop-part.part-index in
    let here : ℕ → ℕ → Bool = λ p part. p == part % n in
    one_more c.loop-part.set c.insert.new.self (get_or listed k 0 % n) (λ p. list_any (here p) (take k listed)) (λ p. list_any (here p) (take (k + 1) listed)) c.loop-part.invariant c.insert.ensures
    (λ p. list_any_more (here p) listed k 0 c.loop-part-test.true)
