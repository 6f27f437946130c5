use Rattle.std.proofs.Common.{◌≡◌, Some, slice_get, slice_set, sym, subst}
use Rattle.ss_shard.specs.Parts.{all_partitions}
use Rattle.ss_shard.specs.Splits.{ArePartlyJoined, HoldPartlyJoined}
use Rattle.ss_shard.proofs.PartlyJoined.{may_release, released, released_hold}
use Rattle.ss_shard.proofs.splits.release_last.Goals as goal

pub release-requires-clause-may : goal.release-requires-clause-may
release-requires-clause-may c =
    let shards = c.args.shards.now in
    let shell = c.in-Some.shell.now in
    let at = subst (λ k. slice_get shards k ≡ Some shell) c.from.ensures c.in-Some.ensures.item in
    (all_partitions c.args.last, may_release c.args.catalog.now c.args.parts c.args.last c.args.whole.now shards shell at c.requires.joined c.requires.second)

pub returns-clause-joined : goal.returns-clause-joined
returns-clause-joined c =
    let catalog = c.args.catalog.now in
    let n = c.args.parts in
    let k = c.args.last in
    let shards = c.args.shards.now in
    let shell = c.in-Some.shell.now in
    let back = c.release.new.back in
    let at = subst (λ k. slice_get shards k ≡ Some shell) c.from.ensures c.in-Some.ensures.item in
    let may = may_release catalog n k c.args.whole.now shards shell at c.requires.joined c.requires.second in
    subst (λ j. ArePartlyJoined catalog n k c.release.new.self (slice_set shards j back)) (sym c.from.ensures)
    (released catalog n k c.args.whole.now shards shell at c.requires.joined c.release.new.self back (c.release.ensures (all_partitions k) may))

pub returns-clause-hold : goal.returns-clause-hold
returns-clause-hold c = λ db hold.
    let catalog = c.args.catalog.now in
    let n = c.args.parts in
    let k = c.args.last in
    let shards = c.args.shards.now in
    let shell = c.in-Some.shell.now in
    let back = c.release.new.back in
    let at = subst (λ k. slice_get shards k ≡ Some shell) c.from.ensures c.in-Some.ensures.item in
    let may = may_release catalog n k c.args.whole.now shards shell at c.requires.joined c.requires.second in
    subst (λ j. HoldPartlyJoined catalog n k c.release.new.self (slice_set shards j back) db) (sym c.from.ensures)
    (released_hold catalog n k c.args.whole.now shards shell at c.requires.joined c.release.new.self back (c.release.ensures (all_partitions k) may) db hold)
