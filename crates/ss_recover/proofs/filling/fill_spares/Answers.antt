use Rattle.std.proofs.Common.{ℕ, subst}
use Rattle.ss_recover.specs.Loading.{AreBodies}
use Rattle.ss_recover.proofs.MoreBodies.{more_on}
use Rattle.ss_recover.proofs.GivenBodies.{spares_next}
use Rattle.ss_recover.proofs.filling.fill_spares.Goals as goal

pub loop-number-preserved : goal.loop-number-preserved
loop-number-preserved c =
    let old = c.loop-number.catalog in
    let new = c.fill_bodies.new.catalog in
    let e = c.in_ok-fill_bodies.ensures in
    let so_far = c.loop-number.invariant in
    record {
      more = more_on c.args.catalog.now old new so_far.more e.more;
      named = spares_next old new c.args.spares.now c.loop-number.number c.index-spares-number.result e.more c.loop-number-test.true c.index-spares-number.is so_far.named
          (subst (λ (q : ℕ). AreBodies new q c.index-spares-number.result) c.in-Ok.ensures.1 (subst (AreBodies new c.in-Ok.procedure) c.as_slice.ensures e.named));
    }
