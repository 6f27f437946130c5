use Rattle.std.proofs.Common.{◌≡◌, ◌+◌, suc, subst, arith}
use Rattle.ss_shard.specs.Splits.{ArePartlyJoined, HoldPartlyJoined}
use Rattle.ss_shard.proofs.splits.absorb_all.Goals as goal

pub loop-next-init : goal.loop-next-init
loop-next-init c = record { some = omega arith; joined = c.requires.joined; hold = λ db h. h }

pub absorb_next-requires-clause-there : goal.absorb_next-requires-clause-there
absorb_next-requires-clause-there c =
    let count = c.loop-next.invariant.joined.count in
    let more = c.loop-next-test.true in
    omega (arith, count, more)

pub absorb_next-requires-clause-hold : goal.absorb_next-requires-clause-hold
absorb_next-requires-clause-hold c = (c.requires.hold.0, c.loop-next.invariant.hold c.requires.hold.0 c.requires.hold.1)

pub loop-next-preserved : goal.loop-next-preserved
loop-next-preserved c =
    let catalog = c.args.catalog.now in
    let n = c.args.parts in
    let whole = c.absorb_next.new.whole in
    let shards = c.absorb_next.new.shards in
    let same : suc c.loop-next.next ≡ c.loop-next.next + 1 = omega arith in
    record {
      some = omega arith;
      joined = subst (λ k. ArePartlyJoined catalog n k whole shards) same c.in-Ok.ensures.joined;
      hold = λ db h. subst (λ k. HoldPartlyJoined catalog n k whole shards db) same (c.in-Ok.ensures.hold db (c.loop-next.invariant.hold db h));
    }

pub returns-clause-joined : goal.returns-clause-joined
returns-clause-joined c =
    let past = c.loop-next-test.false in
    let end = c.loop-next.auto.next-end in
    let same : c.loop-next.next ≡ c.args.parts = omega (arith, past, end) in
    subst (λ k. ArePartlyJoined c.args.catalog.now c.args.parts k c.loop-next.whole c.loop-next.shards) same c.loop-next.invariant.joined

pub returns-clause-hold : goal.returns-clause-hold
returns-clause-hold c = λ db h.
    let past = c.loop-next-test.false in
    let end = c.loop-next.auto.next-end in
    let same : c.loop-next.next ≡ c.args.parts = omega (arith, past, end) in
    subst (λ k. HoldPartlyJoined c.args.catalog.now c.args.parts k c.loop-next.whole c.loop-next.shards db) same (c.loop-next.invariant.hold db h)
