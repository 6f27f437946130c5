use Rattle.std.proofs.Common.{◌∙◌, ◌==◌, ◌≤◌, ℕ, Bool, length, arith}
use Rattle.ss_model.specs.Partitions.{window_partition}
use Rattle.ss_shard.proofs.Exchanging.{begun, stayed, went, ended, test_passes, test_fails}
use Rattle.ss_shard.proofs.exchanges.exchange_windows.Goals as goal
use Rattle.ss_shard.proofs.exchanges.exchange_windows.Goals.{then-window_home-partition, else-window_home-partition}

pub loop-number-init : goal.loop-number-init
loop-number-init c = begun (λ (w : ℕ). window_partition c.args.catalog.now c.args.parts w == c.args.partition) c.args.windows.now c.args.others.now

pub loop-number-preserved : goal.loop-number-preserved
loop-number-preserved c =
    let at : ℕ → Bool = λ (w : ℕ). window_partition c.args.catalog.now c.args.parts w == c.args.partition in
    let loop = c.loop-number in
    elim c.if-window_home-partition.branch [
      | then-window_home-partition w ↦ went at c.args.windows.now c.args.others.now loop.number loop.windows loop.others loop.invariant c.requires.alike _ _
          (test_passes c.window_home.result _ c.args.partition c.window_home.ensures w.if-window_home-partition.true)
          (w.windows-is ∙ w.exchange_at.ensures.here) (w.others-is ∙ w.exchange_at.ensures.there)
      | else-window_home-partition w ↦ stayed at c.args.windows.now c.args.others.now loop.number loop.windows loop.others loop.invariant _ _
          (test_fails c.window_home.result _ c.args.partition c.window_home.ensures w.if-window_home-partition.false) w.windows-is w.others-is
    ]

pub returns-clause-here : goal.returns-clause-here
returns-clause-here c =
    let loop = c.loop-number in
    let all : length c.args.windows.now ≤ loop.number = omega (arith, c.len-number-end.ensures, c.loop-number-test.false) in
    (ended (λ (w : ℕ). window_partition c.args.catalog.now c.args.parts w == c.args.partition) c.args.windows.now c.args.others.now loop.number loop.windows loop.others loop.invariant c.requires.alike all).here

pub returns-clause-there : goal.returns-clause-there
returns-clause-there c =
    let loop = c.loop-number in
    let all : length c.args.windows.now ≤ loop.number = omega (arith, c.len-number-end.ensures, c.loop-number-test.false) in
    (ended (λ (w : ℕ). window_partition c.args.catalog.now c.args.parts w == c.args.partition) c.args.windows.now c.args.others.now loop.number loop.windows loop.others loop.invariant c.requires.alike all).there
