use Rattle.ss_model.specs.Replays.{after}
use Rattle.ss_run.proofs.entry.list_entry.Goals as goal

pub join_list-requires-clause-ran : goal.join_list-requires-clause-ran
join_list-requires-clause-ran g c = (
  c.args.store.now.database.whole,
  record {
    at = c.requires.at;
    back = c.in-Ok.ensures.back;
    of_catalog = c.execute_entry.ensures.of_catalog;
    sourced = c.in-Ok.ensures.sourced;
    ran = c.in-Ok.ensures.ok (after c.args.catalog.now g.O.Origin.opening c.args.store.now.list) c.requires.at.stands.shard c.requires.at.stands.streams c.requires.ready;
  },
)
