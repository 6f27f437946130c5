use Rattle.std.proofs.Common.{◌≡◌, ◌∙◌, ◌+◌, ◌∷◌, [], ℕ, List, length, slice_get, Some, length-append, ap, subst, sym, arith}
use Rattle.ss_model.specs.Database.{empty_database}
use Rattle.ss_shard.specs.Parts.{IsShardOf, HoldsParts}
use Rattle.ss_shard.specs.ShardValue.{ShardValue}
use Rattle.ss_shard.proofs.AllPartitions.{each_more}
use Rattle.ss_shard.proofs.Blanks.{parts_of_blank}
use Rattle.ss_shard.proofs.database.blanks.Goals as goal

pub loop-number-preserved : goal.loop-number-preserved
loop-number-preserved c =
    let catalog = c.args.catalog.now in
    let n = c.args.parts in
    let made = c.loop-number.made in
    let shard = c.in_ok-shard.shard in
    let count = c.loop-number.invariant.count in
    let is = subst (λ k. IsShardOf catalog n k shard) (sym count) c.in_ok-shard.ensures.is_shard in
    let holds = parts_of_blank catalog n (length made ∷ []) shard c.in_ok-shard.ensures.holds in
    record {
      count = ap length c.in_ok-push.ensures.ok ∙ length-append made (shard ∷ []) ∙ ap (λ k. k + 1) count;
      each = subst (λ (l : List ShardValue). (p : ℕ) (y : ShardValue) → slice_get l p ≡ Some y → IsShardOf catalog n p y) (sym c.in_ok-push.ensures.ok)
          (each_more (λ p y. IsShardOf catalog n p y) made shard c.loop-number.invariant.each is);
      hold = subst (λ (l : List ShardValue). (p : ℕ) (y : ShardValue) → slice_get l p ≡ Some y → HoldsParts catalog n (p ∷ []) y (empty_database catalog)) (sym c.in_ok-push.ensures.ok)
          (each_more (λ p y. HoldsParts catalog n (p ∷ []) y (empty_database catalog)) made shard c.loop-number.invariant.hold holds);
    }

pub returns-clause-are_shards : goal.returns-clause-are_shards
returns-clause-are_shards c =
    let count = c.loop-number.invariant.count in
    let past = c.loop-number-test.false in
    let end = c.loop-number.auto.number-end in
    record { count = omega (arith, count, past, end); each = c.loop-number.invariant.each }
