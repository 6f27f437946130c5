use Rattle.ss_lanes.specs.Clients.{HasMade}
use Rattle.ss_lanes.proofs.CallerLemmas.{all_there, many_lanes, of_lanes}
use Rattle.ss_engine.proofs.session.threads.run_clients.Goals as goal

pub lanes_of-requires-clause-there : goal.lanes_of-requires-clause-there
lanes_of-requires-clause-there g c = all_there _ (HasMade g.I.Life.first g.I.Life.limit c.args.starts.now c.args.requests.now) c.clients_beside_executors-clients.result.items c.clients_beside_executors-clients.ensures

pub returns-clause-many : goal.returns-clause-many
returns-clause-many g c = many_lanes _ (HasMade g.I.Life.first g.I.Life.limit c.args.starts.now c.args.requests.now) c.lanes_of.result.items _ c.lanes_of.ensures c.clients_beside_executors-clients.ensures

pub returns-clause-made : goal.returns-clause-made
returns-clause-made g c = of_lanes _ (HasMade g.I.Life.first g.I.Life.limit c.args.starts.now c.args.requests.now) c.lanes_of.result.items _ c.lanes_of.ensures c.clients_beside_executors-clients.ensures
