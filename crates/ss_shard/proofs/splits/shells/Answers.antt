use Rattle.std.proofs.Common.{◌≡◌, ◌∙◌, ◌+◌, ◌∷◌, [], ℕ, List, length, slice_get, Some, length-append, ap, subst, sym, arith}
use Rattle.ss_shard.specs.ShardValue.{ShardValue}
use Rattle.ss_shard.specs.Splits.{IsShellOf}
use Rattle.ss_shard.proofs.AllPartitions.{each_more}
use Rattle.ss_shard.proofs.splits.shells.Goals as goal

pub loop-number-preserved : goal.loop-number-preserved
loop-number-preserved c =
    let catalog = c.args.catalog.now in
    let n = c.args.parts in
    let made = c.loop-number.made in
    let shell = c.in_ok-shell.shell in
    let count = c.loop-number.invariant.count in
    let is = subst (λ k. IsShellOf catalog n k shell) (sym count) c.in_ok-shell.ensures in
    record {
      count = ap length c.in_ok-push.ensures.ok ∙ length-append made (shell ∷ []) ∙ ap (λ k. k + 1) count;
      each = subst (λ (l : List ShardValue). (p : ℕ) (y : ShardValue) → slice_get l p ≡ Some y → IsShellOf catalog n p y) (sym c.in_ok-push.ensures.ok)
          (each_more (λ p y. IsShellOf catalog n p y) made shell c.loop-number.invariant.each is);
    }

pub returns : goal.returns
returns c =
    let count = c.loop-number.invariant.count in
    let past = c.loop-number-test.false in
    let end = c.loop-number.auto.number-end in
    record { count = omega (arith, count, past, end); each = c.loop-number.invariant.each }
