use Rattle.ss_disk.specs.Crash.{CutFile}
use Rattle.ss_disk.proofs.CallerLemmas.{one_call}
use Rattle.ss_cmdlog.specs.Renewing.{KeepsRest}
use Rattle.ss_cmdlog.proofs.Renewed.{rest_own, rest_stepped}
use Rattle.ss_cmdlog.proofs.LeftSome.{some_call}
use Rattle.ss_cmdlog.proofs.renew.clear.Goals as goal

pub returns-clause-moments : goal.returns-clause-moments
returns-clause-moments g c = λ honest.
    one_call g.D.Disk.kind.moment g.D.Disk.kind.images c.args.disk.now c.cut.new.self (KeepsRest c.args.which (g.D.Disk.kind.images c.args.disk.now (g.D.Disk.kind.moment c.args.disk.now))) (c.cut.ensures.time honest)
    (rest_own c.args.which (g.D.Disk.kind.images c.args.disk.now (g.D.Disk.kind.moment c.args.disk.now)))
    (λ image left. rest_stepped c.args.which (CutFile 0) (g.D.Disk.kind.images c.args.disk.now (g.D.Disk.kind.moment c.args.disk.now)) image (c.cut.ensures.crash honest image left))

pub returns-clause-some : goal.returns-clause-some
returns-clause-some g c = λ honest. some_call g.D.Disk.kind.honest g.D.Disk.kind.seen g.D.Disk.kind.moment g.D.Disk.kind.images g.met.D.Disk.sees_an_image honest c.args.disk.now c.cut.new.self (c.cut.ensures.time honest)
