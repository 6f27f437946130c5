use Rattle.std.proofs.Common.{◌≡◌, suc, Some, slice_get, slice_set, sym, ap, subst, ◌∙◌}
use Rattle.ss_lemmas.proofs.Results.{on_so, error_so}
use Rattle.ss_undo.proofs.CallerLemmas.{set_same}
use Rattle.ss_shard.specs.Parts.{all_partitions}
use Rattle.ss_shard.specs.Splits.{ArePartlyJoined, HoldPartlyJoined}
use Rattle.ss_shard.proofs.PartlyJoined.{may_absorb, absorbed, absorbed_hold}
use Rattle.ss_shard.proofs.splits.absorb_next.Goals as goal

pub absorb-requires-clause-may : goal.absorb-requires-clause-may
absorb-requires-clause-may c =
    let shards = c.args.shards.now in
    let shard = c.in-Some.shard.now in
    let at = subst (λ k. slice_get shards k ≡ Some shard) c.from.ensures c.in-Some.ensures.item in
    (all_partitions c.args.next, may_absorb c.args.catalog.now c.args.parts c.args.next c.args.whole.now shards shard at c.requires.joined c.requires.hold.0 c.requires.hold.1)

pub returns-clause-joined : goal.returns-clause-joined
returns-clause-joined c =
    let catalog = c.args.catalog.now in
    let n = c.args.parts in
    let k = c.args.next in
    let shards = c.args.shards.now in
    let shard = c.in-Some.shard.now in
    let left = c.absorb.new.other in
    let at = subst (λ k. slice_get shards k ≡ Some shard) c.from.ensures c.in-Some.ensures.item in
    let may = may_absorb catalog n k c.args.whole.now shards shard at c.requires.joined c.requires.hold.0 c.requires.hold.1 in
    on_so c.absorb.result _ _ (
    λ has.
    subst (λ j. ArePartlyJoined catalog n (suc k) c.absorb.new.self (slice_set shards j left)) (sym c.from.ensures)
    (absorbed catalog n k c.args.whole.now shards shard at c.requires.joined c.absorb.new.self left (has (all_partitions k) may))
    ) c.absorb.ensures.ok

pub returns-clause-hold : goal.returns-clause-hold
returns-clause-hold c =
    let catalog = c.args.catalog.now in
    let n = c.args.parts in
    let k = c.args.next in
    let shards = c.args.shards.now in
    let shard = c.in-Some.shard.now in
    let left = c.absorb.new.other in
    let at = subst (λ k. slice_get shards k ≡ Some shard) c.from.ensures c.in-Some.ensures.item in
    let may = may_absorb catalog n k c.args.whole.now shards shard at c.requires.joined c.requires.hold.0 c.requires.hold.1 in
    on_so c.absorb.result _ _ (
    λ has db hold.
    subst (λ j. HoldPartlyJoined catalog n (suc k) c.absorb.new.self (slice_set shards j left) db) (sym c.from.ensures)
    (absorbed_hold catalog n k c.args.whole.now shards shard at c.requires.joined c.absorb.new.self left (has (all_partitions k) may) db hold)
    ) c.absorb.ensures.ok

pub returns-clause-err : goal.returns-clause-err
returns-clause-err c =
    let shards = c.args.shards.now in
    error_so c.absorb.result _ _ (λ same. (same.0, ap (slice_set shards c.from.result) same.1 ∙ set_same shards c.from.result c.in-Some.shard.now c.in-Some.ensures.item)) c.absorb.ensures.err
