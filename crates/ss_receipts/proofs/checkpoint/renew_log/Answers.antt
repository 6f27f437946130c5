use Rattle.std.proofs.Common.{◌≡◌, ◌∙◌, Some, Err, sym, ap}
use Rattle.ss_lemmas.proofs.Bools.{some_same}
use Rattle.ss_cmdlog.specs.declared.log.LogError.TheVariants.{DiskFault}
use Rattle.ss_receipts.proofs.Renewing.{holds_renewed, holds_kept, holds_failed}
use Rattle.ss_receipts.proofs.checkpoint.renew_log.Goals as goal

pub returns-in-Ok-clause-holds : goal.returns-in-Ok-clause-holds
returns-in-Ok-clause-holds g c = λ list fault is h.
    let goes = h.going c.requires.going in
    let e = c.in-Ok.ensures in
    let renews = e.renews goes.generation goes.opened_at in
    holds_renewed g.I.Life.recovery g.I.Life.every g.I.Life.catalog g.I.Life.opening g.I.Life.first g.I.Life.moment g.I.Life.faults g.I.Life.past g.D.Disk.kind
    g.met.D.Disk.honest_tells c.requires.asked c.requires.accepted c.requires.opening.0 c.requires.opening.1 c.held_fronts_stand.ensures c.checkpoints_hold.ensures c.checkpoints_keep_fronts.ensures
    list c.args.log.now c.renew.new.self c.args.count fault c.args.image.now is h c.requires.going
    renews.moments e.some e.cause.later (e.cause.goes_on (λ failed. cc) ∙ c.requires.going) (e.cause.told (λ failed. cc)) e.count renews.done

pub returns-in-Err-NoMemory-clause-holds : goal.returns-in-Err-NoMemory-clause-holds
returns-in-Err-NoMemory-clause-holds g c = λ list fault is h.
    let goes = h.going c.requires.going in
    let e = c.in-Err-NoMemory.ensures in
    let renews = e.renews goes.generation goes.opened_at in
    holds_kept g.I.Life.recovery g.I.Life.every g.I.Life.catalog g.I.Life.opening g.I.Life.first g.I.Life.moment g.I.Life.faults g.I.Life.past g.D.Disk.kind
    g.met.D.Disk.honest_tells c.requires.asked c.requires.accepted c.requires.opening.0 c.requires.opening.1 c.held_fronts_stand.ensures c.checkpoints_hold.ensures c.checkpoints_keep_fronts.ensures
    list c.args.log.now c.renew.new.self c.args.count fault c.args.image.now is h c.requires.going
    renews.moments e.some e.cause.later (e.cause.goes_on (λ failed. cc) ∙ c.requires.going) (e.cause.told (λ failed. cc)) e.count (renews.kept (ap Err c.in-Err-NoMemory.field-0-is))

pub returns-in-Some-clause-holds : goal.returns-in-Some-clause-holds
returns-in-Some-clause-holds g c = λ list fault is h.
    let goes = h.going c.requires.going in
    let e = c.in-Err-DiskFault.ensures in
    let renews = e.renews goes.generation goes.opened_at in
    let failed : Err c.in-Err-DiskFault.field-0 ≡ Err DiskFault = ap Err c.in-Err-DiskFault.field-0-is in
    let halted : c.renew.new.self.halted ≡ Some c.in-Some.faults = sym c.halted.ensures ∙ c.in-Some.is in
    holds_failed g.I.Life.recovery g.I.Life.every g.I.Life.catalog g.I.Life.opening g.I.Life.first g.I.Life.moment g.I.Life.faults g.I.Life.past g.D.Disk.kind
    g.met.D.Disk.honest_tells c.requires.asked c.requires.accepted c.requires.opening.0 c.requires.opening.1 c.held_fronts_stand.ensures c.checkpoints_hold.ensures c.checkpoints_keep_fronts.ensures
    list c.args.log.now c.renew.new.self c.args.count fault c.args.image.now is h c.requires.going
    renews.moments e.some e.cause.later c.in-Some.faults halted (some_same _ _ (sym halted ∙ e.cause.keeps failed)) (e.cause.rose failed)
