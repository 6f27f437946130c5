use Rattle.std.proofs.Common.{◌∙◌, ◌==◌, ◌≤◌, ℕ, Bool, length, arith}
use Rattle.ss_model.specs.Partitions.{home_partition, border_procedure}
use Rattle.ss_shard.proofs.Exchanging.{begun, stayed, went, ended, test_passes, test_fails}
use Rattle.ss_shard.proofs.exchanges.exchange_sources.Goals as goal
use Rattle.ss_shard.proofs.exchanges.exchange_sources.Goals.{then-border_home-partition, else-border_home-partition}

pub loop-number-init : goal.loop-number-init
loop-number-init c = begun (λ (s : ℕ). home_partition c.args.parts (border_procedure c.args.catalog.now s) == c.args.partition) c.args.sources.now c.args.others.now

pub loop-number-preserved : goal.loop-number-preserved
loop-number-preserved c =
    let at : ℕ → Bool = λ (s : ℕ). home_partition c.args.parts (border_procedure c.args.catalog.now s) == c.args.partition in
    let loop = c.loop-number in
    elim c.if-border_home-partition.branch [
      | then-border_home-partition w ↦ went at c.args.sources.now c.args.others.now loop.number loop.sources loop.others loop.invariant c.requires.alike _ _
          (test_passes c.border_home.result _ c.args.partition c.border_home.ensures w.if-border_home-partition.true)
          (w.sources-is ∙ w.exchange_at.ensures.here) (w.others-is ∙ w.exchange_at.ensures.there)
      | else-border_home-partition w ↦ stayed at c.args.sources.now c.args.others.now loop.number loop.sources loop.others loop.invariant _ _
          (test_fails c.border_home.result _ c.args.partition c.border_home.ensures w.if-border_home-partition.false) w.sources-is w.others-is
    ]

pub returns-clause-here : goal.returns-clause-here
returns-clause-here c =
    let loop = c.loop-number in
    let all : length c.args.sources.now ≤ loop.number = omega (arith, c.len-number-end.ensures, c.loop-number-test.false) in
    (ended (λ (s : ℕ). home_partition c.args.parts (border_procedure c.args.catalog.now s) == c.args.partition) c.args.sources.now c.args.others.now loop.number loop.sources loop.others loop.invariant c.requires.alike all).here

pub returns-clause-there : goal.returns-clause-there
returns-clause-there c =
    let loop = c.loop-number in
    let all : length c.args.sources.now ≤ loop.number = omega (arith, c.len-number-end.ensures, c.loop-number-test.false) in
    (ended (λ (s : ℕ). home_partition c.args.parts (border_procedure c.args.catalog.now s) == c.args.partition) c.args.sources.now c.args.others.now loop.number loop.sources loop.others loop.invariant c.requires.alike all).there
