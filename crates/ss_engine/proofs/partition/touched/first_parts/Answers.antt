use Rattle.std.proofs.Common.{◌+◌, nat_lt, sym, subst}
use Rattle.ss_partition.specs.PartSets.{HasJust}
use Rattle.ss_partition.proofs.PartSets.{none_below, one_more, below_next}
use Rattle.ss_engine.proofs.partition.touched.first_parts.Goals as goal

pub loop-partition-init : goal.loop-partition-init
loop-partition-init c = subst (λ z. HasJust z (λ p. nat_lt p 0)) (sym c.empty-set.ensures) none_below

pub loop-partition-preserved : goal.loop-partition-preserved
loop-partition-preserved c =
    let k = c.loop-partition.partition in
    one_more c.loop-partition.set c.insert.new.self k (λ p. nat_lt p k) (λ p. nat_lt p (k + 1)) c.loop-partition.invariant c.insert.ensures (λ i. below_next i k)
