use Rattle.std.proofs.Common.{◌≡◌, ◌∙◌, ◌++◌, List, ℕ, length, ap, arith}
use Rattle.ss_lemmas.proofs.Results.{on_so}
use Rattle.ss_disk.specs.Crash.{TornFile}
use Rattle.ss_disk.specs.Files.{file, with_file, with_write}
use Rattle.ss_disk.proofs.CallerLemmas.{one_call}
use Rattle.ss_cmdlog.specs.Renewing.{KeepsRest}
use Rattle.ss_cmdlog.proofs.Renewed.{at_the_end, rest_own, rest_stepped}
use Rattle.ss_cmdlog.proofs.LeftSome.{some_call}
use Rattle.ss_cmdlog.proofs.renew.append.Goals as goal

pub write_at-requires : goal.write_at-requires
write_at-requires g c = λ tells. (let is = c.requires tells in omega (arith, is))

pub returns-clause-appended : goal.returns-clause-appended
returns-clause-appended g c = λ tells.
    let old = g.D.Disk.kind.seen c.args.disk.now in
    on_so c.write_at.result
    (g.D.Disk.kind.seen c.write_at.new.self ≡ with_write c.args.which c.args.end c.args.bytes.now old)
    (g.D.Disk.kind.seen c.write_at.new.self ≡ with_file c.args.which (file c.args.which old ++ c.args.bytes.now) old)
    (λ is. is ∙ ap (λ (l : List ℕ). with_file c.args.which l old) (at_the_end (file c.args.which old) c.args.bytes.now c.args.end (c.requires tells)))
    (c.write_at.ensures.ok tells)

pub returns-clause-moments : goal.returns-clause-moments
returns-clause-moments g c = λ honest.
    one_call g.D.Disk.kind.moment g.D.Disk.kind.images c.args.disk.now c.write_at.new.self (KeepsRest c.args.which (g.D.Disk.kind.images c.args.disk.now (g.D.Disk.kind.moment c.args.disk.now))) (c.write_at.ensures.time honest)
    (rest_own c.args.which (g.D.Disk.kind.images c.args.disk.now (g.D.Disk.kind.moment c.args.disk.now)))
    (λ image left. rest_stepped c.args.which (TornFile c.args.end (length c.args.bytes.now)) (g.D.Disk.kind.images c.args.disk.now (g.D.Disk.kind.moment c.args.disk.now)) image (c.write_at.ensures.crash honest image left))

pub returns-clause-some : goal.returns-clause-some
returns-clause-some g c = λ honest. some_call g.D.Disk.kind.honest g.D.Disk.kind.seen g.D.Disk.kind.moment g.D.Disk.kind.images g.met.D.Disk.sees_an_image honest c.args.disk.now c.write_at.new.self (c.write_at.ensures.time honest)
