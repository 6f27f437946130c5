use Rattle.std.proofs.Common.{◌≡◌, ◌⊎◌, List, ℕ, true, subst, take}
use Rattle.ss_model.specs.declared.catalog.Body.{Body}
use Rattle.ss_model.specs.Database.{has_body}
use Rattle.ss_snapshot.specs.Bodies.{HasNoBody}
use Rattle.ss_recover.proofs.MoreBodies.{all_next, are_bodies_still, more_on}
use Rattle.ss_recover.proofs.filling.fill_bodies.Goals as goal

pub loop-body-preserved : goal.loop-body-preserved
loop-body-preserved c =
    let old = c.loop-body.catalog in
    let new = c.fill_body.new.catalog in
    let q = c.args.procedure in
    let e = c.in_ok-fill_body.ensures in
    let so_far = c.loop-body.invariant in
    record {
      more = more_on c.args.catalog.now old new so_far.more e.more;
      named = all_next (λ (b : Body). (has_body new q b.text ≡ true) ⊎ HasNoBody new q b.text) c.args.bodies.now c.loop-body.body-index c.body-item.result c.loop-body-test.true c.body-item.is
          (are_bodies_still old new q e.more (take c.loop-body.body-index c.args.bodies.now) so_far.named)
          (subst (λ (t : List ℕ). (has_body new q t ≡ true) ⊎ HasNoBody new q t) c.as_slice.ensures e.named);
    }
