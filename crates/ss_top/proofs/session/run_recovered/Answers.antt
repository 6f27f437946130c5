use denote.Param.Send.{given_send, param_send}
use mir.Syntax.{ty_unit}
use Rattle.std.proofs.Common.{rules, ℕ, ◌≡◌, ◌≤◌, [], Some, subst}
use Rattle.ss_model.specs.Accepted.{Accepted}
use Rattle.ss_model.specs.Recovery.{Recovery}
use Rattle.ss_engine.specs.Clients.{AllFit, StartWithin}
use Rattle.ss_engine.specs.Sessions.{AreOfClients, EndsOnDisk, OpensOn}
use Rattle.ss_fronts.specs.Fronts.{BeganAt, HoldsFront}
use Rattle.ss_top.specs.Turns.{GoesOnWith}
use Rattle.ss_top.proofs.ClientsBelow.{clients_below}
use Rattle.ss_top.proofs.Running.{within_places}
use Rattle.ss_top.proofs.session.run_recovered.Goals as goal

pub client_count-clients-requires : goal.client_count-clients-requires
client_count-clients-requires g c =
    let fit : AllFit c.args.recovered.catalog c.args.requests.now = search (rules, c.requires) parts 40 in
    rw c.as_slice.ensures (clients_below c.args.recovered.catalog c.args.requests.now fit)

pub run_session-requires : goal.run_session-requires
run_session-requires g c = λ κs within.
    let with : GoesOnWith {D = g.row.D.Denot} g.D.Disk.kind c.args.partitions c.args.recovered g.begins = search (rules, c.requires) parts 40 in
    let goes = with.goes_on in
    let small = within_places c.args.limit c.args.recovered.first c.room_from.result goes.few c.room_from.ensures in
    let opens : OpensOn {D = g.row.D.Denot} g.D.Disk.kind g.begins.recovery c.args.recovered.catalog g.begins.db c.args.recovered.first c.args.recovered.log =
    record {
      stood = goes.s;
      going = goes.log;
      formed = goes.formed;
      count = goes.count;
      began = λ told. subst (λ (r : Recovery). BeganAt r c.args.recovered.catalog g.begins.db c.args.recovered.first) with.had_again (goes.began told);
      held = λ told. subst (λ (r : Recovery). HoldsFront r c.args.recovered.catalog g.begins.db c.args.recovered.first [] 0 goes.s) with.had_again (goes.held told);
    } in
    let accepted : Accepted c.args.recovered.catalog = search (rules, c.requires) parts 40 in
    let fit : AllFit c.args.recovered.catalog c.args.requests.now = search (rules, c.requires) parts 40 in
    let some : 1 ≤ c.args.partitions = search (rules, c.requires) parts 40 in
    let few : c.args.partitions ≤ 8 = search (rules, c.requires) parts 40 in
    let every : (k : ℕ) → c.args.every ≡ Some k → 1 ≤ k = search (rules, c.requires) parts 40 in
    let starts : StartWithin c.args.starts.now c.args.requests.now = search (rules, c.requires) parts 40 in
    let clients = c.client_count-clients.ensures in
    let sent = param_send 3 _ (given_send 0 ty_unit g.row.D c.requires.1.1.1.0) in
    (search rules, (search (rules, within), (search (rules, within), (search (rules, within), (record { owned = sent.owned; leaving = sent.leaving }, (search rules, (search (rules, c.requires.1.1.1.1.0), (search (rules, c.requires.1.1.1.1.1.0), (accepted, ((some, few), ((clients.some, clients.few), (small, (goes.ready.whole.in_step.matched, (goes.had.streams, (goes.ready.whole, (goes.had, (every, (goes.ready.dealt, (goes.ready.holds.shard, (goes.ready.holds.streams, (opens, (fit, (subst (AreOfClients c.client_count-clients.result) c.as_slice.ensures clients.of_clients, starts)))))))))))))))))))))))

pub returns-in-Ok-clause-ran : goal.returns-in-Ok-clause-ran
returns-in-Ok-clause-ran g c = (
  c.client_count-clients.result,
  subst (λ (room : ℕ). EndsOnDisk {D = g.row.D.Denot} g.D.Disk.kind g.begins.recovery c.args.every c.args.recovered.catalog g.begins.db c.args.recovered.first
      room c.client_count-clients.result c.args.requests.now c.args.starts.now c.args.recovered.log c.in-Ok.finished) c.room_from.ensures c.in-Ok.ensures.ok,
)
