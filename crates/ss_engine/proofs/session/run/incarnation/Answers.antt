use Rattle.std.proofs.Common.{◌∙◌, List, sym, subst}
use Rattle.ss_model.specs.declared.entry.Request.{Request}
use Rattle.ss_lanes.specs.Clients.{EachAt, HasMade, StartWithin}
use Rattle.ss_engine.proofs.Flushes.{holds_looked, run_ends, run_looked}
use Rattle.ss_engine.proofs.Sessions.{made_lanes, is_run}
use Rattle.ss_engine.proofs.session.run.incarnation.Goals as goal

pub close-closed-requires-clause-lanes : goal.close-closed-requires-clause-lanes
close-closed-requires-clause-lanes g c =
    let many = c.run_clients-lanes.ensures.many ∙ (c.in-Ok-with_room.ensures.many_are ∙ c.in-Ok.ensures.lanes.many) in
    made_lanes _ _ _ _ _ _ many c.run_clients-lanes.ensures.made

pub flushed_at_last-requires-clause-holds : goal.flushed_at_last-requires-clause-holds
flushed_at_last-requires-clause-holds g c =
    let first = g.I.Life.first in
    let disk = c.into_parts-command_log.result.1 in
    let looked = c.see-posted.ensures.disk c.into_parts-command_log.ensures.disk in
    let held = holds_looked disk c.see-posted.new.mark c.see-posted.result.count c.see-posted.result.faults c.see-posted.ensures.seen looked g.D.Disk.kind g.I.Life.recovery g.I.Life.every g.I.Life.catalog g.I.Life.opening g.I.Life.first g.I.Life.moment g.I.Life.faults g.I.Life.past
    c.into_parts-command_log.result.0 c.close-closed.result.list c.close-closed.ensures.rest c.holds_go_on.ensures c.close-closed.ensures.begins c.into_parts-command_log.ensures.holds in
    (disk.faults, held)

pub flushed_at_last-requires-clause-left : goal.flushed_at_last-requires-clause-left
flushed_at_last-requires-clause-left g c =
    let first = g.I.Life.first in
    let many = c.run_clients-lanes.ensures.many ∙ (c.in-Ok-with_room.ensures.many_are ∙ c.in-Ok.ensures.lanes.many) in
    let made = subst (λ (rs : List Request). EachAt (HasMade first g.I.Life.limit c.args.starts.now rs) c.run_clients-lanes.result.items) c.as_slice-2.ensures c.run_clients-lanes.ensures.made in
    (is_run g.I.Life.catalog g.I.Life.parts g.I.Life.opening first g.I.Life.limit g.I.Life.clients c.args.requests.now c.args.starts.now c.see-posted.new.mark c.run_clients-lanes.result.items c.close-closed.result c.requires.asked many made c.close-closed.ensures).left

pub returns-clause-ok : goal.returns-clause-ok
returns-clause-ok g c =
    let first = g.I.Life.first in
    let disk = c.into_parts-command_log.result.1 in
    let looked = c.see-posted.ensures.disk c.into_parts-command_log.ensures.disk in
    let held = holds_looked disk c.see-posted.new.mark c.see-posted.result.count c.see-posted.result.faults c.see-posted.ensures.seen looked g.D.Disk.kind g.I.Life.recovery g.I.Life.every g.I.Life.catalog g.I.Life.opening g.I.Life.first g.I.Life.moment g.I.Life.faults g.I.Life.past
    c.into_parts-command_log.result.0 c.close-closed.result.list c.close-closed.ensures.rest c.holds_go_on.ensures c.close-closed.ensures.begins c.into_parts-command_log.ensures.holds in
    let many = c.run_clients-lanes.ensures.many ∙ (c.in-Ok-with_room.ensures.many_are ∙ c.in-Ok.ensures.lanes.many) in
    let made = subst (λ (rs : List Request). EachAt (HasMade first g.I.Life.limit c.args.starts.now rs) c.run_clients-lanes.result.items) c.as_slice-2.ensures c.run_clients-lanes.ensures.made in
    let run = is_run g.I.Life.catalog g.I.Life.parts g.I.Life.opening first g.I.Life.limit g.I.Life.clients c.args.requests.now c.args.starts.now c.see-posted.new.mark c.run_clients-lanes.result.items c.close-closed.result c.requires.asked many made c.close-closed.ensures in
    run_ends g.D.Disk.kind g.I.Life.recovery g.I.Life.every g.I.Life.catalog g.I.Life.opening g.I.Life.first g.I.Life.moment g.I.Life.faults g.I.Life.past g.I.Life.limit g.I.Life.clients c.args.requests.now c.args.starts.now c.close-closed.result c.see-posted.result.count disk.faults c.flushed_at_last.result c.flushed_at_last.ensures.closed held.begun
    (run_looked disk c.see-posted.new.mark c.see-posted.result.count c.see-posted.result.faults c.see-posted.ensures.seen looked g.I.Life.catalog g.I.Life.opening first g.I.Life.limit g.I.Life.clients c.args.requests.now c.args.starts.now c.close-closed.result run)
    (c.flushed_at_last.ensures.flushed disk.faults held)

pub with_room-requires-clause-starts : goal.with_room-requires-clause-starts
with_room-requires-clause-starts g c = subst (StartWithin c.args.starts.now) (sym c.as_slice.ensures) c.requires.starts
