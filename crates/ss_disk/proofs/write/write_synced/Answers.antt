use Rattle.std.proofs.Common.{◌+◌, length}
use Rattle.ss_disk.proofs.Moments.{one_call, runs_join}
use Rattle.ss_disk.proofs.Staying.{fewer_none, fewer_call}
use Rattle.ss_disk.specs.Steps.{undone_write}
use Rattle.ss_disk.proofs.write.write_synced.Goals as goal

-- the write alone
pub returns-in_err-write_at-clause-moments : goal.returns-in_err-write_at-clause-moments
returns-in_err-write_at-clause-moments g c = λ honest.
    one_call g.D.Disk.kind.moment g.D.Disk.kind.images c.args.disk.now c.write_at.new.self _ (c.write_at.ensures.time honest)
    (λ image left. (image, left, undone_write c.args.which c.args.at (length c.args.bytes.now) image)) (c.write_at.ensures.crash honest)

pub returns-in-Ok-clause-moments : goal.returns-in-Ok-clause-moments
returns-in-Ok-clause-moments g c = λ honest.
    runs_join g.D.Disk.kind.moment g.D.Disk.kind.images c.args.disk.now c.write_at.new.self c.sync.new.self _
    (one_call g.D.Disk.kind.moment g.D.Disk.kind.images c.args.disk.now c.write_at.new.self _ (c.write_at.ensures.time honest)
    (λ image left. (image, left, undone_write c.args.which c.args.at (length c.args.bytes.now) image)) (c.write_at.ensures.crash honest))
    (one_call g.D.Disk.kind.moment g.D.Disk.kind.images c.write_at.new.self c.sync.new.self _ (c.sync.ensures.time honest)
    (c.write_at.ensures.crash honest) (λ image left. c.write_at.ensures.crash honest image (c.sync.ensures.crash honest image left)))

pub returns-in-Err-clause-moments : goal.returns-in-Err-clause-moments
returns-in-Err-clause-moments g c = λ honest.
    runs_join g.D.Disk.kind.moment g.D.Disk.kind.images c.args.disk.now c.write_at.new.self c.sync.new.self _
    (one_call g.D.Disk.kind.moment g.D.Disk.kind.images c.args.disk.now c.write_at.new.self _ (c.write_at.ensures.time honest)
    (λ image left. (image, left, undone_write c.args.which c.args.at (length c.args.bytes.now) image)) (c.write_at.ensures.crash honest))
    (one_call g.D.Disk.kind.moment g.D.Disk.kind.images c.write_at.new.self c.sync.new.self _ (c.sync.ensures.time honest)
    (c.write_at.ensures.crash honest) (λ image left. c.write_at.ensures.crash honest image (c.sync.ensures.crash honest image left)))

-- behind the write alone there is no moment more
pub returns-in_err-write_at-clause-fewer : goal.returns-in_err-write_at-clause-fewer
returns-in_err-write_at-clause-fewer g c = λ honest.
    fewer_none g.D.Disk.kind.moment g.D.Disk.kind.images (g.D.Disk.kind.moment c.args.disk.now + 1) c.write_at.new.self (c.write_at.ensures.time honest).by_one

pub returns-in-Ok-clause-fewer : goal.returns-in-Ok-clause-fewer
returns-in-Ok-clause-fewer g c = λ honest.
    fewer_call g.D.Disk.kind.moment g.D.Disk.kind.images (g.D.Disk.kind.moment c.args.disk.now + 1) c.write_at.new.self c.sync.new.self (c.sync.ensures.time honest)
    (fewer_none g.D.Disk.kind.moment g.D.Disk.kind.images (g.D.Disk.kind.moment c.args.disk.now + 1) c.write_at.new.self (c.write_at.ensures.time honest).by_one) (c.sync.ensures.crash honest)

pub returns-in-Err-clause-fewer : goal.returns-in-Err-clause-fewer
returns-in-Err-clause-fewer g c = λ honest.
    fewer_call g.D.Disk.kind.moment g.D.Disk.kind.images (g.D.Disk.kind.moment c.args.disk.now + 1) c.write_at.new.self c.sync.new.self (c.sync.ensures.time honest)
    (fewer_none g.D.Disk.kind.moment g.D.Disk.kind.images (g.D.Disk.kind.moment c.args.disk.now + 1) c.write_at.new.self (c.write_at.ensures.time honest).by_one) (c.sync.ensures.crash honest)
