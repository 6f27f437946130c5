use Rattle.ss_disk.proofs.CallerLemmas.{one_call}
use Rattle.ss_cmdlog.specs.Renewing.{KeepsRest}
use Rattle.ss_cmdlog.proofs.Renewed.{rest_on, rest_own}
use Rattle.ss_cmdlog.proofs.LeftSome.{some_call, some_join}
use Rattle.ss_cmdlog.proofs.renew.pour_synced.Goals as goal

pub returns-in-Ok-clause-moments : goal.returns-in-Ok-clause-moments
returns-in-Ok-clause-moments g c = λ honest.
    rest_on c.args.which g.D.Disk.kind.moment g.D.Disk.kind.images c.args.disk.now c.pour-poured.new.disk c.sync.new.self (c.pour-poured.ensures.moments honest)
    (one_call g.D.Disk.kind.moment g.D.Disk.kind.images c.pour-poured.new.disk c.sync.new.self (KeepsRest c.args.which (g.D.Disk.kind.images c.pour-poured.new.disk (g.D.Disk.kind.moment c.pour-poured.new.disk))) (c.sync.ensures.time honest)
    (rest_own c.args.which (g.D.Disk.kind.images c.pour-poured.new.disk (g.D.Disk.kind.moment c.pour-poured.new.disk)))
    (λ image left. rest_own c.args.which (g.D.Disk.kind.images c.pour-poured.new.disk (g.D.Disk.kind.moment c.pour-poured.new.disk)) image (c.sync.ensures.crash honest image left)))

pub returns-in-Err-clause-moments : goal.returns-in-Err-clause-moments
returns-in-Err-clause-moments g c = λ honest.
    rest_on c.args.which g.D.Disk.kind.moment g.D.Disk.kind.images c.args.disk.now c.pour-poured.new.disk c.sync.new.self (c.pour-poured.ensures.moments honest)
    (one_call g.D.Disk.kind.moment g.D.Disk.kind.images c.pour-poured.new.disk c.sync.new.self (KeepsRest c.args.which (g.D.Disk.kind.images c.pour-poured.new.disk (g.D.Disk.kind.moment c.pour-poured.new.disk))) (c.sync.ensures.time honest)
    (rest_own c.args.which (g.D.Disk.kind.images c.pour-poured.new.disk (g.D.Disk.kind.moment c.pour-poured.new.disk)))
    (λ image left. rest_own c.args.which (g.D.Disk.kind.images c.pour-poured.new.disk (g.D.Disk.kind.moment c.pour-poured.new.disk)) image (c.sync.ensures.crash honest image left)))

pub returns-in-Ok-clause-some : goal.returns-in-Ok-clause-some
returns-in-Ok-clause-some g c = λ honest.
    some_join g.D.Disk.kind.moment g.D.Disk.kind.images (g.D.Disk.kind.moment c.args.disk.now) c.pour-poured.new.disk c.sync.new.self (c.pour-poured.ensures.some honest) (c.sync.ensures.time honest).keeps
    (some_call g.D.Disk.kind.honest g.D.Disk.kind.seen g.D.Disk.kind.moment g.D.Disk.kind.images g.met.D.Disk.sees_an_image honest c.pour-poured.new.disk c.sync.new.self (c.sync.ensures.time honest))

pub returns-in-Err-clause-some : goal.returns-in-Err-clause-some
returns-in-Err-clause-some g c = λ honest.
    some_join g.D.Disk.kind.moment g.D.Disk.kind.images (g.D.Disk.kind.moment c.args.disk.now) c.pour-poured.new.disk c.sync.new.self (c.pour-poured.ensures.some honest) (c.sync.ensures.time honest).keeps
    (some_call g.D.Disk.kind.honest g.D.Disk.kind.seen g.D.Disk.kind.moment g.D.Disk.kind.images g.met.D.Disk.sees_an_image honest c.pour-poured.new.disk c.sync.new.self (c.sync.ensures.time honest))
