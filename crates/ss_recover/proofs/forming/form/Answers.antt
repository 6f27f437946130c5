use Rattle.std.proofs.Common.{◌∙◌, ℕ, true, List, [], Some, ap, subst}
use Rattle.ss_model.specs.Database.{empty_database}
use Rattle.ss_recover.specs.Errors.{forming_refusal}
use Rattle.ss_recover.specs.Recovering.{IsRecovered}
use Rattle.ss_recover.proofs.Formed.{formed, uncalled, unformed}
use Rattle.ss_recover.proofs.forming.form.Goals as goal

pub returns-in-Ok-format-clause-recovered : goal.returns-in-Ok-format-clause-recovered
returns-in-Ok-format-clause-recovered g c =
    let spelled = c.as_slice.ensures ∙ c.in-Ok.ensures.ok in
    let catalog = c.args.catalog in
    rw c.new.ensures (
    subst
    (λ (image : List ℕ).
    IsRecovered g.D.Disk.kind c.args.mode (Some catalog) c.args.partitions c.args.disk
    (record { database = c.in-Ok-opening.database; catalog = catalog; first = 0; known = []; bodies = true; image = image; log = c.in-Ok-format.log }) (empty_database catalog))
    c.as_slice.ensures
    (formed g.D.Disk.kind g.met.D.Disk.honest_tells c.args.mode catalog c.requires.own c.forming_stands.ensures c.in-Ok.ensures.fits c.as_slice.result.now spelled c.args.disk c.requires.empty
    c.images_are_exact.ensures.again c.wholeness_stays.ensures c.kept_carries_weak.ensures c.weak_lists_hold_asked.ensures
    c.args.partitions c.in-Ok-opening.database c.in-Ok-format.log c.in-Ok-opening.ensures.is_whole c.in-Ok-opening.ensures.stands c.in-Ok-format.ensures.open c.in-Ok-format.ensures.count c.in-Ok-format.ensures.moments c.in-Ok-format.ensures.some c.one_thing_stands_on.ensures))

pub returns-in-Err-clause-refused : goal.returns-in-Err-clause-refused
returns-in-Err-clause-refused g c =
    let spelled = c.as_slice.ensures ∙ c.in-Ok.ensures.ok in
    rw c.refusal.ensures (
    unformed g.D.Disk.kind g.met.D.Disk.honest_tells c.args.mode c.args.catalog c.requires.own c.forming_stands.ensures c.in-Ok.ensures.fits c.as_slice.result.now spelled c.args.disk c.requires.empty
    c.in-Err.disk c.in-Err.refused c.in-Err.ensures.refusals c.in-Err.ensures.cause c.in-Err.ensures.moments c.in-Err.ensures.some c.kept_carries_weak.ensures c.one_thing_stands_on.ensures g.met.D.Disk.sees_an_image)

pub returns-in-Err-clause-told : goal.returns-in-Err-clause-told
returns-in-Err-clause-told g c = λ other. c.in-Err.ensures.cause.told (λ is. other (c.refusal.ensures ∙ ap forming_refusal is))

pub returns-in_default-clause-refused : goal.returns-in_default-clause-refused
returns-in_default-clause-refused g c = uncalled g.D.Disk.kind c.args.mode (Some c.args.catalog) c.args.disk

pub returns-in_default-opening-clause-refused : goal.returns-in_default-opening-clause-refused
returns-in_default-opening-clause-refused g c = uncalled g.D.Disk.kind c.args.mode (Some c.args.catalog) c.args.disk
