use mir.Syntax.{erased}
use Rattle.std.proofs.Common.{rules, ◌≡◌, length, subst}
use Rattle.ss_lanes.specs.Clients.{HasLane, HasMade}
use Rattle.ss_lanes.proofs.CallerLemmas.{of_slice}
use Rattle.ss_engine.proofs.Crossing.{clients_sync}
use Rattle.ss_engine.proofs.session.threads.client_threads.Goals as goal

pub for_each_mut-requires-sync-F : goal.for_each_mut-requires-sync-F
for_each_mut-requires-sync-F g c κs within =
    let e = clients_sync g.row.I g.row.N g.row.G g.row.R g.I.Life (record { mir = erased; lft = κs.1.1.1.1.1.1.0 }) (record { mir = erased; lft = κs.1.1.1.1.1.1.1.1.0 })
    c.type_bounds.send-I c.type_bounds.sync-I c.type_bounds.sync-N c.type_bounds.sync-G c.type_bounds.sync-R g.row.D g.D.Disk c.type_bounds.send-D
    (record { mir = erased; lft = κs.1.1.1.1.1.1.1.0 }) (record { mir = erased; lft = κs.1.1.1.1.1.1.1.1.1.0 }) (record { mir = erased; lft = κs.1.1.1.1.1.1.1.1.1.1.0 }) (record { mir = erased; lft = κs.1.1.1.1.1.1.1.1.1.1.1.0 }) in
    record { shared = e.shared }

pub returns : goal.returns
returns g c =
    let long : length c.for_each_mut.new.s ≡ length c.args.clients.items = (let a = c.for_each_mut.auto.s in let b = c.as_mut_slice.ensures.value in search rules) in
    let full : c.args.clients.len ≡ length c.args.clients.items = (let ok = c.args.clients.ok in search rules) in
    of_slice c.args.clients.len (HasMade g.I.Life.first g.I.Life.limit c.args.starts.now c.args.requests.now) c.args.clients.items c.for_each_mut.new.s long full
    (λ k d below.
    let at = (c.for_each_mut.ensures k d (let b = c.as_mut_slice.ensures.value in search rules)).1 in
    subst (λ x. HasLane (HasMade g.I.Life.first g.I.Life.limit c.args.starts.now c.args.requests.now k) x) at.left at.call)
