use Rattle.std.proofs.Common.{◌≡◌, subst, arith}
use Rattle.ss_shard.specs.Splits.{ArePartlyJoined, HoldPartlyJoined}
use Rattle.ss_shard.proofs.OpeningLemmas.{sound_windows}
use Rattle.ss_shard.proofs.PartlyJoined.{each_begins, each_begins_hold, each_ends, each_ends_hold, all_ends_hold}
use Rattle.ss_shard.proofs.splits.join.Goals as goal

pub shell-requires-clause-sound : goal.shell-requires-clause-sound
shell-requires-clause-sound c = sound_windows c.args.catalog.now c.requires.accepted

pub put-whole-requires : goal.put-whole-requires
put-whole-requires c =
    let count = c.requires.shards.0.count in
    let some = c.requires.some in
    omega (arith, count, some)

pub absorb_all-held-requires-clause-joined : goal.absorb_all-held-requires-clause-joined
absorb_all-held-requires-clause-joined c =
    each_begins c.args.catalog.now c.args.parts c.put-whole.result c.args.shards c.put-whole.new.self c.requires.shards.0 c.put-whole.ensures.old c.in-Ok.shell c.put-whole.ensures.new c.in-Ok.ensures

pub absorb_all-held-requires-clause-hold : goal.absorb_all-held-requires-clause-hold
absorb_all-held-requires-clause-hold c =
    let hold = c.requires.shards.1 in (
      hold.0,
      each_begins_hold c.args.catalog.now c.args.parts c.put-whole.result c.args.shards c.put-whole.new.self c.requires.shards.0 c.put-whole.ensures.old c.in-Ok.shell c.put-whole.ensures.new hold.0 hold.1,
    )

pub returns-then-held-parts-clause-err : goal.returns-then-held-parts-clause-err
returns-then-held-parts-clause-err c =
    let catalog = c.args.catalog.now in
    let n = c.args.parts in
    let whole = c.release_all.new.whole in
    let list = c.release_all.new.shards in
    record {
      shards_are = each_ends catalog n whole list c.put.new.self c.put.ensures.new c.release_all.ensures.joined;
      holds = λ db h.
          let begins = each_begins_hold catalog n c.put-whole.result c.args.shards c.put-whole.new.self c.requires.shards.0 c.put-whole.ensures.old c.in-Ok.shell c.put-whole.ensures.new db h in
          each_ends_hold catalog n whole list c.put.new.self c.put.ensures.new db (c.release_all.ensures.hold db (c.absorb_all-held.ensures.hold db begins));
    }

pub returns-clause-ok : goal.returns-clause-ok
returns-clause-ok c =
    let catalog = c.args.catalog.now in
    let n = c.args.parts in
    let whole = c.absorb_all-held.new.whole in
    let list = c.absorb_all-held.new.shards in
    let within = c.absorb_all-held.ensures.within in
    let all = c.if-held-parts.false in
    let same : c.absorb_all-held.result ≡ n = omega (arith, within, all) in
    let joined = subst (λ k. ArePartlyJoined catalog n k whole list) same c.absorb_all-held.ensures.joined in
    record {
      whole_is = record { number = joined.number; parts = joined.parts };
      holds = λ db h.
          let begins = each_begins_hold catalog n c.put-whole.result c.args.shards c.put-whole.new.self c.requires.shards.0 c.put-whole.ensures.old c.in-Ok.shell c.put-whole.ensures.new db h in
          all_ends_hold catalog n c.requires.some whole list db (subst (λ k. HoldPartlyJoined catalog n k whole list db) same (c.absorb_all-held.ensures.hold db begins));
    }
