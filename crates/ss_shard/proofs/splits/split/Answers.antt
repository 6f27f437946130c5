use Rattle.std.proofs.Common.{arith}
use Rattle.ss_shard.proofs.OpeningLemmas.{sound_windows}
use Rattle.ss_shard.proofs.PartlyJoined.{all_begins, all_begins_hold, each_ends, each_ends_hold}
use Rattle.ss_shard.proofs.splits.split.Goals as goal

pub shells-requires-clause-sound : goal.shells-requires-clause-sound
shells-requires-clause-sound c = sound_windows c.args.catalog.now c.requires.accepted

pub release_all-requires-clause-joined : goal.release_all-requires-clause-joined
release_all-requires-clause-joined c = all_begins c.args.catalog.now c.args.parts c.requires.some c.args.whole c.in-Ok.shards c.in-Ok.ensures c.requires.whole

pub put-requires : goal.put-requires
put-requires c =
    let count = c.release_all.ensures.joined.count in
    let some = c.requires.some in
    omega (arith, count, some)

pub returns-clause-ok : goal.returns-clause-ok
returns-clause-ok c =
    let catalog = c.args.catalog.now in
    let n = c.args.parts in
    let first = c.release_all.new.whole in
    let shards = c.release_all.new.shards in
    record {
      shards_are = each_ends catalog n first shards c.put.new.self c.put.ensures.new c.release_all.ensures.joined;
      holds = λ db h. each_ends_hold catalog n first shards c.put.new.self c.put.ensures.new db
          (c.release_all.ensures.hold db (all_begins_hold catalog n c.requires.some c.args.whole c.in-Ok.shards c.in-Ok.ensures.count db h));
    }
