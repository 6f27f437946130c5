use Rattle.std.proofs.Common.{◌≡◌, ◌∙◌, List, All, IfSome, arith, subst, sym}
use Rattle.ss_model.specs.declared.entry.Entry.{Entry}
use Rattle.ss_record.specs.Bounds.{IsRecordable}
use Rattle.ss_model.specs.declared.catalog.Catalog.{Catalog}
use Rattle.ss_recover.specs.declared.stored.Stored.{Stored}
use Rattle.ss_recover.specs.Loading.{IsStored}
use Rattle.ss_recover.proofs.Renewals.{renewed_later}
use Rattle.ss_recover.proofs.Restored.{another, another_mode, entries_recordable, list_more, loaded_logged, some, unopened, unstored, was_recovered, was_refused}
use Rattle.ss_recover.proofs.restoring.restore.Goals as goal

pub stored_in-requires-clause-recordable : goal.stored_in-requires-clause-recordable
stored_in-requires-clause-recordable g c =
    let (s, read, is_open, is_loaded, stood) = c.in-Ok.ensures.open in
    subst (λ (es : List Entry). All IsRecordable es) (sym is_loaded.entries) (entries_recordable s stood)

pub stored_in-requires-clause-logged : goal.stored_in-requires-clause-logged
stored_in-requires-clause-logged g c =
    let (s, read, is_open, is_loaded, stood) = c.in-Ok.ensures.open in
    loaded_logged c.in-Ok.opened.1 s is_loaded stood

pub returns-in-Err-clause-refused : goal.returns-in-Err-clause-refused
returns-in-Err-clause-refused g c =
    rw c.unopened.ensures (
    unopened g.D.Disk.kind g.met.D.Disk.honest_tells c.args.mode c.args.disk c.args.given c.in-Err.disk c.in-Err.refused c.in-Err.ensures.refusals c.in-Err.ensures.cause c.requires.stored
    c.in-Err.ensures.foreign (record { same = c.in-Err.ensures.same; moments = c.in-Err.ensures.moments; fewer = c.in-Err.ensures.fewer }))

pub returns-in-Err-stored_in-clause-refused : goal.returns-in-Err-stored_in-clause-refused
returns-in-Err-stored_in-clause-refused g c =
    let (s, read, is_open, is_loaded, stood) = c.in-Ok.ensures.open in
    rw (c.into_disk.ensures, c.unstored.ensures, c.file_number.ensures) (
    unstored g.D.Disk.kind g.met.D.Disk.honest_tells c.args.mode c.args.disk c.in-Ok.opened.0 c.in-Ok.opened.1 s read is_open is_loaded (record { same = c.in-Ok.ensures.same; moments = c.in-Ok.ensures.moments; fewer = c.in-Ok.ensures.fewer })
    c.args.given c.in-Err-stored_in.refused c.in-Err-stored_in.ensures.refused)

pub returns-then-is_other-clause-refused : goal.returns-then-is_other-clause-refused
returns-then-is_other-clause-refused g c =
    let (s, read, is_open, is_loaded, stood) = c.in-Ok.ensures.open in
    rw (c.into_disk-then-is_other.ensures, c.mode-stored.ensures) (
    another_mode g.D.Disk.kind g.met.D.Disk.honest_tells c.args.mode c.args.disk c.in-Ok.opened.0 c.in-Ok.opened.1 s read is_open is_loaded (record { same = c.in-Ok.ensures.same; moments = c.in-Ok.ensures.moments; fewer = c.in-Ok.ensures.fewer })
    c.args.given c.args.partitions c.in-Ok-stored_in.stored c.in-Ok-stored_in.ensures.ok c.in-Ok.opened.0.mode (sym is_open.of_mode) (λ same. c.is_other.ensures.other c.if-is_other.true (c.mode.ensures ∙ same)))

pub renewed-requires-clause-no_less : goal.renewed-requires-clause-no_less
renewed-requires-clause-no_less g c =
    let loaded = c.in-Ok.opened.1 in
    let r = c.in-Ok-stored_in.stored in
    let is = c.in-Ok-stored_in.ensures.ok in
    rw c.in-Ok-agreed.ensures.ok (omega (arith, c.in-Ok.ensures.count, is.placed, list_more loaded.mode r.catalog is.db loaded.entries r.known is.entries))

pub renewed-requires-clause-held : goal.renewed-requires-clause-held
renewed-requires-clause-held g c =
    let (s, read, is_open, is_loaded, stood) = c.in-Ok.ensures.open in
    rw c.in-Ok-agreed.ensures.ok (
    some g.D.Disk.kind g.met.D.Disk.honest_tells c.args.mode c.args.disk c.in-Ok.opened.0 c.in-Ok.opened.1 s read is_open is_loaded (record { same = c.in-Ok.ensures.same; moments = c.in-Ok.ensures.moments; fewer = c.in-Ok.ensures.fewer })
    c.args.given c.args.partitions c.in-Ok-stored_in.stored c.in-Ok-stored_in.ensures.ok)

pub returns-in-Ok-agreed-clause-recovered : goal.returns-in-Ok-agreed-clause-recovered
returns-in-Ok-agreed-clause-recovered g c =
    let (s, read, is_open, is_loaded, stood) = c.in-Ok.ensures.open in
    let of_mode = sym is_open.of_mode ∙ sym c.mode.ensures ∙ c.is_other.ensures.same c.if-is_other.false in
    let r = c.in-Ok-agreed.stored in
    let is : IsStored c.in-Ok.opened.1 c.args.given c.args.partitions r = subst (IsStored c.in-Ok.opened.1 c.args.given c.args.partitions) (sym c.in-Ok-agreed.ensures.ok) c.in-Ok-stored_in.ensures.ok in
    let same : IfSome c.args.given (λ (k : Catalog). r.catalog.text ≡ k.text) =
    subst (λ (x : Stored). IfSome c.args.given (λ (k : Catalog). x.catalog.text ≡ k.text)) (sym c.in-Ok-agreed.ensures.ok) c.in-Ok-agreed.ensures.text in
    let as_stored : s.bodies ≡ r.bodies = sym (is.form ∙ is_loaded.bodies) in
    was_recovered g.D.Disk.kind g.met.D.Disk.honest_tells c.args.mode c.args.disk c.in-Ok.opened.0 c.in-Ok.opened.1 s read is_open is_loaded (record { same = c.in-Ok.ensures.same; moments = c.in-Ok.ensures.moments; fewer = c.in-Ok.ensures.fewer })
    c.args.given c.args.partitions r is c.images_are_exact.ensures.again c.wholeness_stays.ensures c.kept_carries_weak.ensures c.weak_lists_hold_asked.ensures stood of_mode
    c.spares_aside.ensures c.checkpoints_hold.ensures c.weakly_stands_for_one.ensures c.held_fronts_stand.ensures c.checkpoints_keep_fronts.ensures c.a_nested_value_has_one_answer.ensures.catalog
    c.requires.own same c.renewed.result (c.renewed.ensures.goes_on s is_open as_stored) (λ true'. c.renewed.ensures.leaves true' s is_open as_stored) c.renewed.ensures.only

pub returns-in-Ok-agreed-clause-refused : goal.returns-in-Ok-agreed-clause-refused
returns-in-Ok-agreed-clause-refused g c =
    let (s, read, is_open, is_loaded, stood) = c.in-Ok.ensures.open in
    let of_mode = sym is_open.of_mode ∙ sym c.mode.ensures ∙ c.is_other.ensures.same c.if-is_other.false in
    let r = c.in-Ok-agreed.stored in
    let is : IsStored c.in-Ok.opened.1 c.args.given c.args.partitions r = subst (IsStored c.in-Ok.opened.1 c.args.given c.args.partitions) (sym c.in-Ok-agreed.ensures.ok) c.in-Ok-stored_in.ensures.ok in
    let same : IfSome c.args.given (λ (k : Catalog). r.catalog.text ≡ k.text) =
    subst (λ (x : Stored). IfSome c.args.given (λ (k : Catalog). x.catalog.text ≡ k.text)) (sym c.in-Ok-agreed.ensures.ok) c.in-Ok-agreed.ensures.text in
    let as_stored : s.bodies ≡ r.bodies = sym (is.form ∙ is_loaded.bodies) in
    was_refused g.D.Disk.kind g.met.D.Disk.honest_tells c.args.mode c.args.disk c.in-Ok.opened.0 c.in-Ok.opened.1 s read is_open is_loaded (record { same = c.in-Ok.ensures.same; moments = c.in-Ok.ensures.moments; fewer = c.in-Ok.ensures.fewer })
    c.args.given c.args.partitions r is c.images_are_exact.ensures.again c.wholeness_stays.ensures c.kept_carries_weak.ensures c.weak_lists_hold_asked.ensures stood of_mode
    c.spares_aside.ensures c.checkpoints_hold.ensures c.weakly_stands_for_one.ensures c.held_fronts_stand.ensures c.checkpoints_keep_fronts.ensures c.a_nested_value_has_one_answer.ensures.catalog
    c.requires.own same c.renewed.result (λ true'. c.renewed.ensures.leaves true' s is_open as_stored) c.renewed.ensures.only c.renewed.ensures.room g.met.D.Disk.sees_an_image c.in-Ok.ensures.still c.renewed.ensures.cause

pub returns-in-Ok-agreed-clause-later : goal.returns-in-Ok-agreed-clause-later
returns-in-Ok-agreed-clause-later g c =
    renewed_later g.D.Disk.kind c.args.disk c.in-Ok.opened.0.disk c.renewed.result c.in-Ok.ensures.still c.renewed.ensures.still c.renewed.ensures.later

pub returns-in-Err-agreed-clause-refused : goal.returns-in-Err-agreed-clause-refused
returns-in-Err-agreed-clause-refused g c =
    let (s, read, is_open, is_loaded, stood) = c.in-Ok.ensures.open in
    let of_mode = sym is_open.of_mode ∙ sym c.mode.ensures ∙ c.is_other.ensures.same c.if-is_other.false in
    rw c.into_disk-in-Err-agreed.ensures (
    another g.D.Disk.kind g.met.D.Disk.honest_tells c.args.mode c.args.disk c.in-Ok.opened.0 c.in-Ok.opened.1 s read is_open is_loaded (record { same = c.in-Ok.ensures.same; moments = c.in-Ok.ensures.moments; fewer = c.in-Ok.ensures.fewer })
    c.args.given c.args.partitions c.in-Ok-stored_in.stored c.in-Ok-stored_in.ensures.ok c.in-Err-agreed.refused of_mode c.in-Err-agreed.ensures.other)
