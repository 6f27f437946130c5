use Rattle.std.proofs.Common.{◌<◌, ℕ, suc, length, arith}
use Rattle.ss_model.specs.Orders.{procedure_emits}
use Rattle.ss_catalog_checks.specs.StreamEnds.{emitters}
use Rattle.ss_catalog_checks.specs.Tallies.{count_at}
use Rattle.ss_catalog_checks.proofs.Noting.{stay_below, count_on, below_on, all_counted}
use Rattle.ss_catalog_checks.proofs.tallies.count_emitters.Goals as goal

pub loop-procedure-preserved : goal.loop-procedure-preserved
loop-procedure-preserved c =
    let p = c.loop-procedure.procedure in
    let n = length c.args.catalog.now.procedures in
    let h : p < n = omega arith in
    let before = c.loop-procedure.tallies in
    let after = c.count_emits.new.tallies in
    let invariant = c.loop-procedure.invariant in
    let reported = c.in_ok-count_emits.ensures in (
      stay_below (λ s. procedure_emits c.args.catalog.now p s) (suc p) before after invariant.0 reported,
      (λ s. below_on (λ (q : ℕ). procedure_emits c.args.catalog.now q s) n p (emitters c.args.catalog.now s) h (count_at before s) (count_at after s) (reported s) (invariant.1 s)),
      (λ s. count_on (λ (q : ℕ). procedure_emits c.args.catalog.now q s) n p (emitters c.args.catalog.now s) h (count_at before s) (count_at after s) (reported s) (invariant.1 s) (invariant.2 s)),
    )

pub returns : goal.returns
returns c = λ s. all_counted (λ (q : ℕ). procedure_emits c.args.catalog.now q s) (length c.args.catalog.now.procedures) c.loop-procedure.procedure (emitters c.args.catalog.now s) (count_at c.loop-procedure.tallies s) (omega arith) (c.loop-procedure.invariant.2 s)
