use Rattle.std.proofs.Common.{◌≡◌, ◌∙◌, ◌-◌, true, false, ℕ, List, Some, Err, take, drop, All, sym, ap, subst, refl, arith}
use Rattle.ss_lemmas.proofs.Bools.{some_same}
use Rattle.ss_cmdlog.specs.declared.log.LogError.TheVariants.{DiskFault}
use Rattle.ss_model.specs.declared.entry.Entry.{Entry}
use Rattle.ss_model.specs.Replays.{after}
use Rattle.ss_model.proofs.CallerLemmas.{goes_on}
use Rattle.ss_record.specs.Bounds.{IsRecordable}
use Rattle.ss_standing.proofs.CallerLemmas.{rest_replays}
use Rattle.ss_receipts.specs.Holding.{Holds}
use Rattle.ss_receipts.proofs.Recordable.{recordable}
use Rattle.ss_receipts.proofs.Flushing.{holds_all, holds_some, holds_halted}
use Rattle.ss_receipts.proofs.flush.flush_rest.Goals as goal

pub flush-requires-clause-recordable : goal.flush-requires-clause-recordable
flush-requires-clause-recordable g c =
    let list = c.requires.rest.0 in
    let rest = c.requires.rest.2 in
    let held = c.args.count - g.I.Life.first in
    subst (λ (es : List Entry). All IsRecordable es) (sym rest.entries_are)
    (recordable g.I.Life.catalog (after g.I.Life.catalog g.I.Life.opening (take held list)) (drop held list) c.requires.accepted (rest_replays goes_on g.I.Life.catalog g.I.Life.opening list held rest.replays))

pub flush-requires-clause-formed : goal.flush-requires-clause-formed
flush-requires-clause-formed g c = λ older.
    let goes = (c.requires.rest.3).going c.requires.going in
    let open' = goes.opened_at in
    let new : true ≡ false = sym goes.formed ∙ sym open'.of_form ∙ older in
    absurd (cc)

pub returns-in-Ok-clause-holds : goal.returns-in-Ok-clause-holds
returns-in-Ok-clause-holds g c = λ list fault rest h.
    let open' = (h.going c.requires.going).opened_at in
    let e = c.in-Ok.ensures in
    let adds = e.adds (h.going c.requires.going).generation open' in
    subst (λ (n : ℕ). Holds g.I.Life.recovery g.I.Life.every g.I.Life.catalog g.I.Life.opening g.I.Life.first g.I.Life.moment g.I.Life.faults g.I.Life.past g.D.Disk.kind list c.flush.new.self n 0) e.count.1
    (holds_all g.I.Life.recovery g.I.Life.every g.I.Life.catalog g.I.Life.opening g.I.Life.first g.I.Life.moment g.I.Life.faults g.I.Life.past g.D.Disk.kind
    g.met.D.Disk.honest_tells c.held_fronts_stand.ensures c.flushes_keep_fronts.ensures list c.args.log.now c.flush.new.self c.args.count fault c.args.entries.now rest h c.requires.going
    adds.moments e.stays e.cause.later c.groups_hold_the_entries.ensures (e.cause.goes_on (λ failed. cc) ∙ c.requires.going) (e.cause.told (λ failed. cc)) (omega (arith, e.count.0, e.count.1)) (adds.done refl))

pub returns-in-Ok-clause-going : goal.returns-in-Ok-clause-going
returns-in-Ok-clause-going g c = c.in-Ok.ensures.cause.goes_on (λ failed. cc) ∙ c.requires.going

pub returns-in-Err-NoMemory-clause-holds : goal.returns-in-Err-NoMemory-clause-holds
returns-in-Err-NoMemory-clause-holds g c = λ list fault rest h.
    let open' = (h.going c.requires.going).opened_at in
    let e = c.in-Err-NoMemory.ensures in
    let adds = e.adds (h.going c.requires.going).generation open' in
    subst (λ (n : ℕ). Holds g.I.Life.recovery g.I.Life.every g.I.Life.catalog g.I.Life.opening g.I.Life.first g.I.Life.moment g.I.Life.faults g.I.Life.past g.D.Disk.kind list c.flush.new.self n 0) (sym c.count.ensures)
    (holds_some g.I.Life.recovery g.I.Life.every g.I.Life.catalog g.I.Life.opening g.I.Life.first g.I.Life.moment g.I.Life.faults g.I.Life.past g.D.Disk.kind
    g.met.D.Disk.honest_tells c.held_fronts_stand.ensures c.flushes_keep_fronts.ensures list c.args.log.now c.flush.new.self c.args.count fault c.args.entries.now rest h c.requires.going
    adds.moments e.stays e.cause.later (e.cause.goes_on (λ failed. cc) ∙ c.requires.going) (e.cause.told (λ failed. cc)) (adds.kept (ap Err c.in-Err-NoMemory.field-0-is)))

pub returns-in-Some-clause-holds : goal.returns-in-Some-clause-holds
returns-in-Some-clause-holds g c = λ list fault rest h.
    let open' = (h.going c.requires.going).opened_at in
    let e = c.in-Err-DiskFault.ensures in
    let adds = e.adds (h.going c.requires.going).generation open' in
    let failed : Err c.in-Err-DiskFault.field-0 ≡ Err DiskFault = ap Err c.in-Err-DiskFault.field-0-is in
    let halted : c.flush.new.self.halted ≡ Some c.in-Some.faults = sym c.halted.ensures ∙ c.in-Some.is in
    holds_halted g.I.Life.recovery g.I.Life.every g.I.Life.catalog g.I.Life.opening g.I.Life.first g.I.Life.moment g.I.Life.faults g.I.Life.past g.D.Disk.kind
    g.met.D.Disk.honest_tells c.held_fronts_stand.ensures c.flushes_keep_fronts.ensures list c.args.log.now c.flush.new.self c.args.count fault c.args.entries.now rest h c.requires.going
    adds.moments e.stays e.cause.later c.in-Some.faults halted (some_same _ _ (sym halted ∙ e.cause.keeps failed)) (e.cause.rose failed)
