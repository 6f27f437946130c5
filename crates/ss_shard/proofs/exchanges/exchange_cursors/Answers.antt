use Rattle.std.proofs.Common.{◌≡◌, ◌∙◌, ◌==◌, ◌<◌, ◌≤◌, ℕ, Bool, List, length, get_or, slice_get, Some, refl, sym, ap, subst, arith}
use Rattle.std.proofs.lemmas.Option.{slice_get_read}
use Rattle.ss_model.specs.declared.catalog.Procedure.{Procedure}
use Rattle.ss_model.specs.Partitions.{home_of, home_partition}
use Rattle.ss_shard.proofs.Exchanging.{begun, stayed, went, ended, test_passes, test_fails}
use Rattle.ss_shard.proofs.exchanges.exchange_cursors.Goals as goal
use Rattle.ss_shard.proofs.exchanges.exchange_cursors.Goals.{then-home-partition, else-home-partition}

pub loop-number-init : goal.loop-number-init
loop-number-init c = begun (λ (q : ℕ). home_of c.args.catalog.now c.args.parts q == c.args.partition) c.args.cursors.now c.args.others.now

pub loop-number-preserved : goal.loop-number-preserved
loop-number-preserved c =
    let at : ℕ → Bool = λ (q : ℕ). home_of c.args.catalog.now c.args.parts q == c.args.partition in
    let loop = c.loop-number in
    let inside : loop.number < length c.args.catalog.now.procedures = subst (λ (ps : List Procedure). loop.number < length ps) c.as_slice-procedure-items.ensures c.loop-number-test.true in
    let item = c.procedure-item.result in
    let here : slice_get c.args.catalog.now.procedures loop.number ≡ Some item =
    slice_get_read c.args.catalog.now.procedures (length c.args.catalog.now.procedures) loop.number item refl inside
    (subst (λ (ps : List Procedure). item ≡ get_or ps loop.number item) c.as_slice-procedure-items.ensures c.procedure-item.is) in
    let home : c.home.result ≡ home_of c.args.catalog.now c.args.parts loop.number = c.home.ensures ∙ sym (ap (home_partition c.args.parts) here) in
    elim c.if-home-partition.branch [
      | then-home-partition w ↦ went at c.args.cursors.now c.args.others.now loop.number loop.cursors loop.others loop.invariant c.requires.alike _ _
          (test_passes c.home.result _ c.args.partition home w.if-home-partition.true)
          (w.cursors-is ∙ w.exchange_at.ensures.here) (w.others-is ∙ w.exchange_at.ensures.there)
      | else-home-partition w ↦ stayed at c.args.cursors.now c.args.others.now loop.number loop.cursors loop.others loop.invariant _ _
          (test_fails c.home.result _ c.args.partition home w.if-home-partition.false) w.cursors-is w.others-is
    ]

pub returns-clause-here : goal.returns-clause-here
returns-clause-here c =
    let loop = c.loop-number in
    let all : length c.args.cursors.now ≤ loop.number = omega (arith, c.requires.each, ap length c.as_slice-procedure-items.ensures, c.loop-number-test.false) in
    (ended (λ (q : ℕ). home_of c.args.catalog.now c.args.parts q == c.args.partition) c.args.cursors.now c.args.others.now loop.number loop.cursors loop.others loop.invariant c.requires.alike all).here

pub returns-clause-there : goal.returns-clause-there
returns-clause-there c =
    let loop = c.loop-number in
    let all : length c.args.cursors.now ≤ loop.number = omega (arith, c.requires.each, ap length c.as_slice-procedure-items.ensures, c.loop-number-test.false) in
    (ended (λ (q : ℕ). home_of c.args.catalog.now c.args.parts q == c.args.partition) c.args.cursors.now c.args.others.now loop.number loop.cursors loop.others loop.invariant c.requires.alike all).there
