use denote.Exit.{no}
use denote.Param.{param}
use denote.Param.Send.{IsSend, IsSync, arg_send, param_send}
use mir.Syntax.{erased, ty_unit}
use Rattle.std.proofs.Common.{rules}
use Rattle.ss_engine.proofs.Crossing.{executor_send}
use Rattle.ss_engine.proofs.session.threads.fn.clients_beside_executors.scope.Goals as goal

pub spawn-requires-send-F : goal.spawn-requires-send-F
spawn-requires-send-F g c κs within =
    let i : IsSend (param 0 g.row.I) = search (rules, c.requires-raw) parts 8 in
    let j : IsSync (param 0 g.row.I) = search (rules, c.requires-raw) parts 8 in
    let m : IsSync (param 1 g.row.N) = search (rules, c.requires-raw) parts 8 in
    let h : IsSync (param 2 g.row.G) = search (rules, c.requires-raw) parts 8 in
    let r : IsSync (param 3 g.row.R) = search (rules, c.requires-raw) parts 8 in
    let e = executor_send g.row.I g.row.N g.row.G g.row.R g.I.Life (record { mir = erased; lft = κs.1.1.1.1.1.0 }) (record { mir = erased; lft = κs.1.1.1.1.1.1.0 }) i j m h r (record { mir = erased; lft = κs.1.1.1.1.1.1.1.0 }) in
    let p = param_send 1 _ (arg_send ty_unit no _ e) in
    record { owned = p.owned; leaving = p.leaving }
