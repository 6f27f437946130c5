use Rattle.std.proofs.Common.{◌≡◌, ◌-◌, suc, subst, arith}
use Rattle.ss_shard.specs.Splits.{ArePartlyJoined, HoldPartlyJoined}
use Rattle.ss_shard.proofs.splits.release_all.Goals as goal

pub loop-last-init : goal.loop-last-init
loop-last-init c = record { some = c.requires.some; within = c.requires.within; joined = c.requires.joined; hold = λ db h. h }

pub release_last-requires-clause-there : goal.release_last-requires-clause-there
release_last-requires-clause-there c =
    let count = c.loop-last.invariant.joined.count in
    let within = c.loop-last.invariant.within in
    let more = c.loop-last-test.true in
    omega (arith, count, within, more)

pub release_last-requires-clause-joined : goal.release_last-requires-clause-joined
release_last-requires-clause-joined c =
    let more = c.loop-last-test.true in
    let same : c.loop-last.last ≡ suc (c.loop-last.last - 1) = omega (arith, more) in
    subst (λ k. ArePartlyJoined c.args.catalog.now c.args.parts k c.loop-last.whole c.loop-last.shards) same c.loop-last.invariant.joined

pub loop-last-preserved : goal.loop-last-preserved
loop-last-preserved c =
    let more = c.loop-last-test.true in
    let within = c.loop-last.invariant.within in
    let same : c.loop-last.last ≡ suc (c.loop-last.last - 1) = omega (arith, more) in
    record {
      some = omega (arith, more);
      within = omega (arith, more, within);
      joined = c.release_last.ensures.joined;
      hold = λ db h. c.release_last.ensures.hold db
          (subst (λ k. HoldPartlyJoined c.args.catalog.now c.args.parts k c.loop-last.whole c.loop-last.shards db) same (c.loop-last.invariant.hold db h));
    }

pub returns-clause-joined : goal.returns-clause-joined
returns-clause-joined c =
    let some = c.loop-last.invariant.some in
    let past = c.loop-last-test.false in
    let same : c.loop-last.last ≡ 1 = omega (arith, some, past) in
    subst (λ k. ArePartlyJoined c.args.catalog.now c.args.parts k c.loop-last.whole c.loop-last.shards) same c.loop-last.invariant.joined

pub returns-clause-hold : goal.returns-clause-hold
returns-clause-hold c = λ db h.
    let some = c.loop-last.invariant.some in
    let past = c.loop-last-test.false in
    let same : c.loop-last.last ≡ 1 = omega (arith, some, past) in
    subst (λ k. HoldPartlyJoined c.args.catalog.now c.args.parts k c.loop-last.whole c.loop-last.shards db) same (c.loop-last.invariant.hold db h)
