use Rattle.ss_engine.proofs.Flushes.{all_flushed, flushed_err, flushed_ok, holds_all}
use Rattle.ss_engine.proofs.session.run.flushed_at_last.Goals as goal

pub trimmed-flushed-requires-clause-all : goal.trimmed-flushed-requires-clause-all
trimmed-flushed-requires-clause-all g c =
    let (fault, holds) = c.requires.holds in
    (all_flushed g.D.Disk.kind g.I.Life.recovery g.I.Life.every g.I.Life.catalog g.I.Life.opening g.I.Life.first g.I.Life.moment g.I.Life.faults g.I.Life.past
    c.args.closed c.finish.new.log c.args.receipted fault c.finish.result (c.finish.ensures c.args.receipted fault holds) c.in-Ok.receipt c.in-Ok.is).1

pub trimmed-flushed-requires-clause-holds : goal.trimmed-flushed-requires-clause-holds
trimmed-flushed-requires-clause-holds g c =
    let (fault, holds) = c.requires.holds in
    let done = c.finish.ensures c.args.receipted fault holds in (
      done.fault,
      holds_all g.D.Disk.kind g.I.Life.recovery g.I.Life.every g.I.Life.catalog g.I.Life.opening g.I.Life.first g.I.Life.moment g.I.Life.faults g.I.Life.past
          c.args.closed c.finish.new.log c.args.receipted fault c.finish.result done c.in-Ok.receipt c.in-Ok.is,
    )

pub returns-in-Ok-clause-flushed : goal.returns-in-Ok-clause-flushed
returns-in-Ok-clause-flushed g c = λ fault holds.
    let done = c.finish.ensures c.args.receipted fault holds in
    let all = holds_all g.D.Disk.kind g.I.Life.recovery g.I.Life.every g.I.Life.catalog g.I.Life.opening g.I.Life.first g.I.Life.moment g.I.Life.faults g.I.Life.past
    c.args.closed c.finish.new.log c.args.receipted fault c.finish.result done c.in-Ok.receipt c.in-Ok.is in
    flushed_ok g.D.Disk.kind g.I.Life.recovery g.I.Life.every g.I.Life.catalog g.I.Life.opening g.I.Life.first g.I.Life.moment g.I.Life.faults g.I.Life.past
    c.args.closed c.finish.new.log c.args.receipted fault c.finish.result done c.in-Ok.receipt c.trimmed-flushed.new.log c.trimmed-flushed.result c.in-Ok.is (c.trimmed-flushed.ensures done.fault all)

pub returns-in-Err-clause-flushed : goal.returns-in-Err-clause-flushed
returns-in-Err-clause-flushed g c = λ fault holds.
    flushed_err g.D.Disk.kind g.I.Life.recovery g.I.Life.every g.I.Life.catalog g.I.Life.opening g.I.Life.first g.I.Life.moment g.I.Life.faults g.I.Life.past
    c.args.closed c.finish.new.log c.args.receipted fault c.finish.result (c.finish.ensures c.args.receipted fault holds) c.in-Err.refused c.in-Err.is
