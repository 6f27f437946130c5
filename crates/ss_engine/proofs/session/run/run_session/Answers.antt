use Rattle.std.proofs.Common.{rules, ◌≤◌}
use Rattle.ss_model.specs.Accepted.{Accepted}
use Rattle.ss_model.specs.Orders.{MatchesCounts}
use Rattle.ss_receipts.proofs.CallerLemmas.{holds_at_opening}
use Rattle.ss_engine.specs.Sessions.{OpensOn}
use Rattle.ss_engine.proofs.Flushes.{ends_if_ok}
use Rattle.ss_engine.proofs.session.run.run_session.Goals as goal

pub incarnation-requires-clause-opening : goal.incarnation-requires-clause-opening
incarnation-requires-clause-opening g c = λ κs within.
    let accepted : Accepted c.args.catalog = search (rules, c.requires) parts 40 in
    let some : 1 ≤ c.args.opening.parts = search (rules, c.requires) parts 40 in
    let matches : MatchesCounts c.args.catalog g.begins.db = search (rules, c.requires) parts 40 in
    record { accepted = accepted; some = some; matches = matches }

pub incarnation-requires-clause-log : goal.incarnation-requires-clause-log
incarnation-requires-clause-log g c = λ κs within.
    let laws = g.met.D.Disk g.world.𝓛 g.world.𝓜 g.world.𝓡 ((λ s x. x), (λ x. x), (λ x. x), λ x. x) in
    let opens : OpensOn {D = g.row.D.Denot} g.D.Disk.kind g.begins.recovery c.args.catalog g.begins.db c.args.opening.first c.args.command_log = search (rules, c.requires) parts 40 in
    holds_at_opening g.begins.recovery c.args.every c.args.catalog g.begins.db c.args.opening.first g.D.Disk.kind laws.honest_tells c.held_fronts_stand.ensures
    c.args.command_log opens.stood opens.going opens.formed opens.count opens.began opens.held

pub returns-clause-ok : goal.returns-clause-ok
returns-clause-ok g c =
    ends_if_ok g.D.Disk.kind g.begins.recovery c.args.every c.args.catalog g.begins.db c.args.opening.first c.args.opening.limit c.args.opening.clients c.args.requests.now c.args.starts.now c.args.command_log
    c.incarnation.result c.incarnation.ensures.ok
