use Rattle.std.proofs.Common.{◌∙◌, inr, refl, subst}
use Rattle.ss_cmdlog.specs.Generation.{Stood}
use Rattle.ss_cmdlog.specs.Log.{IsOpen}
use Rattle.ss_cmdlog.specs.Renewing.{renewed}
use Rattle.ss_standing.specs.Checkpoints.{checkpoint_of}
use Rattle.ss_recover.proofs.Renewals.{checkpoint_is, nothing_called, renew_leaves}
use Rattle.ss_recover.proofs.renewing.in_new_form.Goals as goal

pub returns-then-bodies-clause-leaves : goal.returns-then-bodies-clause-leaves
returns-then-bodies-clause-leaves g c = λ true' s is_open form d holds streams whole.
    nothing_called g.D.Disk.kind g.met.D.Disk.honest_tells g.met.D.Disk.sees_an_image c.args.log s (checkpoint_of s.mode c.args.catalog.now c.args.place d) is_open true'

pub returns-in_default-clause-leaves : goal.returns-in_default-clause-leaves
returns-in_default-clause-leaves g c = λ true' s is_open form d holds streams whole.
    rw c.into_disk.ensures (nothing_called g.D.Disk.kind g.met.D.Disk.honest_tells g.met.D.Disk.sees_an_image c.args.log s (checkpoint_of s.mode c.args.catalog.now c.args.place d) is_open true')

pub returns-in-Ok-renew-clause-goes_on : goal.returns-in-Ok-renew-clause-goes_on
returns-in-Ok-renew-clause-goes_on g c = λ s is_open form d holds streams whole.
    let catalog = c.args.catalog.now in
    let is = checkpoint_is s.mode catalog c.args.place d c.as_slice.result.now (c.as_slice.ensures ∙ c.in-Ok.ensures.spelled d holds streams whole) in
    (checkpoint_of s.mode catalog c.args.place d, subst (λ (t : Stood). IsOpen {D = g.row.D.Denot} g.D.Disk.kind c.renew.new.self t) is (c.in-Ok-renew.ensures.renews s is_open).done, inr (form ∙ c.if-bodies.false, refl))

pub returns-in-Ok-renew-clause-leaves : goal.returns-in-Ok-renew-clause-leaves
returns-in-Ok-renew-clause-leaves g c = λ true' s is_open form d holds streams whole.
    let catalog = c.args.catalog.now in
    let is = checkpoint_is s.mode catalog c.args.place d c.as_slice.result.now (c.as_slice.ensures ∙ c.in-Ok.ensures.spelled d holds streams whole) in
    renew_leaves g.D.Disk.kind s (renewed s.mode c.args.place c.as_slice.result.now) (checkpoint_of s.mode catalog c.args.place d) c.args.log.disk c.renew.new.self.disk is ((c.in-Ok-renew.ensures.renews s is_open).moments true') (c.in-Ok-renew.ensures.some true')

pub returns-clause-leaves : goal.returns-clause-leaves
returns-clause-leaves g c = λ true' s is_open form d holds streams whole.
    let catalog = c.args.catalog.now in
    let is = checkpoint_is s.mode catalog c.args.place d c.as_slice.result.now (c.as_slice.ensures ∙ c.in-Ok.ensures.spelled d holds streams whole) in
    rw c.into_disk-in-Err.ensures (
    renew_leaves g.D.Disk.kind s (renewed s.mode c.args.place c.as_slice.result.now) (checkpoint_of s.mode catalog c.args.place d) c.args.log.disk c.renew.new.self.disk is ((c.in-Err.ensures.renews s is_open).moments true') (c.in-Err.ensures.some true'))
