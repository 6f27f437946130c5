use Rattle.std.proofs.Common.{is_some, sym, ap, subst, ◌∙◌, IfSome}
use Rattle.ss_engine.specs.Sessions.{IsLeftOver}
use Rattle.ss_model.specs.Replays.{after}
use Rattle.ss_engine.proofs.Flushes.{holds_with, trimmed_err, trimmed_ok}
use Rattle.ss_engine.proofs.session.run.trimmed.Goals as goal

pub trim-requires-clause-asked : goal.trim-requires-clause-asked
trim-requires-clause-asked g c = ap is_some (sym c.requires.every ∙ c.in-Some.is)

pub trim-requires-clause-every : goal.trim-requires-clause-every
trim-requires-clause-every g c = c.requires.checkpoints.some c.in-Some.every (sym c.requires.every ∙ c.in-Some.is)

pub trim-requires-clause-list : goal.trim-requires-clause-list
trim-requires-clause-list g c =
    let (fault, holds) = c.requires.holds in
    let left = subst (λ o. IfSome o (IsLeftOver g.I.Life.catalog (after g.I.Life.catalog g.I.Life.opening c.args.closed.now.list))) c.in-Some-database.is c.requires.left in (
      c.args.closed.now.list,
      fault,
      holds_with g.D.Disk.kind g.I.Life.recovery g.I.Life.every g.I.Life.catalog g.I.Life.opening g.I.Life.first g.I.Life.moment g.I.Life.faults g.I.Life.past
          c.args.closed.now.list c.args.log.now c.args.receipt.count fault c.in-Some-database.database c.requires.all c.requires.small c.requires.replays left holds,
    )

pub returns-in-Ok : goal.returns-in-Ok
returns-in-Ok g c = λ fault holds.
    let left = subst (λ o. IfSome o (IsLeftOver g.I.Life.catalog (after g.I.Life.catalog g.I.Life.opening c.args.closed.now.list))) c.in-Some-database.is c.requires.left in
    let all = holds_with g.D.Disk.kind g.I.Life.recovery g.I.Life.every g.I.Life.catalog g.I.Life.opening g.I.Life.first g.I.Life.moment g.I.Life.faults g.I.Life.past
    c.args.closed.now.list c.args.log.now c.args.receipt.count fault c.in-Some-database.database c.requires.all c.requires.small c.requires.replays left holds in
    trimmed_ok g.D.Disk.kind g.I.Life.recovery g.I.Life.every g.I.Life.catalog g.I.Life.opening g.I.Life.first g.I.Life.moment g.I.Life.faults g.I.Life.past
    c.args.closed.now.list c.args.receipt fault c.in-Some.every c.trim.new.log c.trim.result (c.trim.ensures.holds c.args.closed.now.list fault all) c.in-Ok.field-0 c.in-Ok.is (sym c.requires.every ∙ c.in-Some.is)

pub returns-in-Err : goal.returns-in-Err
returns-in-Err g c = λ fault holds.
    let left = subst (λ o. IfSome o (IsLeftOver g.I.Life.catalog (after g.I.Life.catalog g.I.Life.opening c.args.closed.now.list))) c.in-Some-database.is c.requires.left in
    let all = holds_with g.D.Disk.kind g.I.Life.recovery g.I.Life.every g.I.Life.catalog g.I.Life.opening g.I.Life.first g.I.Life.moment g.I.Life.faults g.I.Life.past
    c.args.closed.now.list c.args.log.now c.args.receipt.count fault c.in-Some-database.database c.requires.all c.requires.small c.requires.replays left holds in
    trimmed_err g.D.Disk.kind g.I.Life.recovery g.I.Life.every g.I.Life.catalog g.I.Life.opening g.I.Life.first g.I.Life.moment g.I.Life.faults g.I.Life.past
    c.args.closed.now.list c.args.receipt fault c.in-Some.every c.trim.new.log c.trim.result (c.trim.ensures.holds c.args.closed.now.list fault all) c.in-Err.refused c.in-Err.is
