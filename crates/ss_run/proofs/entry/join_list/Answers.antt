use Rattle.std.proofs.Common.{◌<◌, ◌+◌, ◌^◌, ◌∙◌, length}
use Rattle.ss_flow.proofs.CallerLemmas.{batches_have_streams}
use Rattle.ss_model.specs.Replays.{after}
use Rattle.ss_run.proofs.Entries.{after_one, replays_one, last_is, advances_at, countable_at, kept_listed}
use Rattle.ss_sched.proofs.CallerLemmas.{kept_many}
use Rattle.ss_run.proofs.entry.join_list.Goals as goal

pub has_place-requires : goal.has_place-requires
has_place-requires g c = c.requires.ran.1.at.opens.few

pub make_room-requires : goal.make_room-requires
make_room-requires g c =
    let catalog = c.args.catalog.now in
    let run = c.requires.ran.1 in
    rw (c.as_slice.ensures, kept_many catalog (after catalog g.O.Origin.opening c.args.store.now.list) c.args.store.now.database.streams.streams run.at.stands.streams, run.ran.emitted)
    (batches_have_streams catalog c.requires.accepted (after catalog g.O.Origin.opening c.args.store.now.list) c.args.entry run.ran.applied run.ran.value)

pub commit-requires-clause-countable : goal.commit-requires-clause-countable
commit-requires-clause-countable g c =
    let list = c.args.store.now.list in
    let run = c.requires.ran.1 in
    let is = last_is list c.push.new.self _ c.at-listed.result.now c.len-place.result c.in-Ok-push.ensures.ok c.len-place.ensures c.at-listed.ensures in
    let short : c.args.store.now.first + length list < 2 ^ 60 = c.has_place.ensures.place c.if-not-has_place.false in
    rw is (countable_at c.args.catalog.now c.requires.accepted g.O.Origin.opening c.args.store.now.first run.at.opens list c.args.entry run.ran.applied short run.ran.value)

pub commit-requires-clause-sourced : goal.commit-requires-clause-sourced
commit-requires-clause-sourced g c =
    let is = last_is c.args.store.now.list c.push.new.self _ c.at-listed.result.now c.len-place.result c.in-Ok-push.ensures.ok c.len-place.ensures c.at-listed.ensures in
    rw is c.requires.ran.1.sourced

pub advance-requires-clause-advances : goal.advance-requires-clause-advances
advance-requires-clause-advances g c =
    let catalog = c.args.catalog.now in
    let list = c.args.store.now.list in
    let run = c.requires.ran.1 in
    let is = last_is list c.push.new.self _ c.at-listed.result.now c.len-place.result c.in-Ok-push.ensures.ok c.len-place.ensures c.at-listed.ensures in
    let short : c.args.store.now.first + length list < 2 ^ 60 = c.has_place.ensures.place c.if-not-has_place.false in
    (after catalog g.O.Origin.opening list, run.ran.applied, rw (is, c.make_room.ensures.unchanged) (advances_at catalog c.requires.accepted g.O.Origin.opening c.args.store.now.first run.at.opens list c.args.entry c.args.executed _ _ short run.ran run.at.stands.streams))

pub returns-clause-at : goal.returns-clause-at
returns-clause-at g c =
    let catalog = c.args.catalog.now in
    let list = c.args.store.now.list in
    let run = c.requires.ran.1 in
    let is = last_is list c.push.new.self _ c.at-listed.result.now c.len-place.result c.in-Ok-push.ensures.ok c.len-place.ensures c.at-listed.ensures in
    let next = after_one catalog c.requires.accepted g.O.Origin.opening c.args.store.now.first run.at.opens list c.args.entry c.args.executed.outcome run.ran.applied run.ran.value in
    let short : c.args.store.now.first + length list < 2 ^ 60 = c.has_place.ensures.place c.if-not-has_place.false in
    rw c.in-Ok-push.ensures.ok (record {
      opens = run.at.opens;
      replays = replays_one catalog c.requires.accepted g.O.Origin.opening c.args.store.now.first run.at.opens list c.args.entry c.args.executed.outcome run.ran.applied run.at.replays run.ran.value run.ran.outcome;
      committed = c.commit.ensures.committed catalog run.of_catalog;
      number = c.commit.ensures.unchanged ∙ run.back.number ∙ run.at.number;
      stands = record {
        shard = rw next (kept_listed catalog (after catalog g.O.Origin.opening list) c.args.entry c.args.executed _ _ c.at-listed.result.now is run.ran (c.commit.ensures.keeps catalog run.of_catalog));
        streams = rw next (c.advance.ensures (after catalog g.O.Origin.opening list) run.ran.applied (rw (is, c.make_room.ensures.unchanged) (advances_at catalog c.requires.accepted g.O.Origin.opening c.args.store.now.first run.at.opens list c.args.entry c.args.executed _ _ short run.ran run.at.stands.streams)));
      };
    })
