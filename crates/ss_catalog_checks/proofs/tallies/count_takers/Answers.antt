use Rattle.std.proofs.Common.{◌<◌, ℕ, suc, length, arith, ◌&&◌, slice_get}
use Rattle.ss_model.specs.declared.catalog.Procedure.{Procedure}
use Rattle.ss_model.specs.Orders.{procedure_has}
use Rattle.ss_model.specs.Database.{takes_stream}
use Rattle.ss_catalog_checks.specs.Tallies.{count_at, is_counted, takers}
use Rattle.ss_catalog_checks.proofs.Noting.{stay_below, count_on, below_on, all_counted, count_numbers, none_below, none_marked, all_left}
use Rattle.ss_catalog_checks.proofs.tallies.count_takers.Goals as goal

pub loop-procedure-preserved : goal.loop-procedure-preserved
loop-procedure-preserved c =
    let p = c.loop-procedure.procedure in
    let n = length c.args.catalog.now.procedures in
    let h : p < n = omega arith in
    let before = c.loop-procedure.tallies in
    let after = c.count_takes.new.tallies in
    let invariant = c.loop-procedure.invariant in
    let reported = c.in_ok-count_takes.ensures in (
      stay_below (λ s. procedure_has (λ d. is_counted c.args.kinds d.kind && takes_stream s d) (slice_get c.args.catalog.now.procedures p)) (suc p) before after invariant.0 reported,
      (λ s. below_on (λ (q : ℕ). procedure_has (λ d. is_counted c.args.kinds d.kind && takes_stream s d) (slice_get c.args.catalog.now.procedures q)) n p (takers c.args.kinds c.args.catalog.now s) h (count_at before s) (count_at after s) (reported s) (invariant.1 s)),
      (λ s. count_on (λ (q : ℕ). procedure_has (λ d. is_counted c.args.kinds d.kind && takes_stream s d) (slice_get c.args.catalog.now.procedures q)) n p (takers c.args.kinds c.args.catalog.now s) h (count_at before s) (count_at after s) (reported s) (invariant.1 s) (invariant.2 s)),
    )

pub returns : goal.returns
returns c = λ s. all_counted (λ (q : ℕ). procedure_has (λ d. is_counted c.args.kinds d.kind && takes_stream s d) (slice_get c.args.catalog.now.procedures q)) (length c.args.catalog.now.procedures) c.loop-procedure.procedure (takers c.args.kinds c.args.catalog.now s) (count_at c.loop-procedure.tallies s) (omega arith) (c.loop-procedure.invariant.2 s)

pub loop-procedure-init : goal.loop-procedure-init
loop-procedure-init c =
    let test = λ (s : ℕ) (d : Procedure). is_counted c.args.kinds d.kind && takes_stream s d in (
      (λ s. none_below c.new-tallies.result s c.new-tallies.ensures),
      (λ s. none_marked c.new-tallies.result s c.new-tallies.ensures),
      (λ s. all_left (λ q. procedure_has (test s) (slice_get c.args.catalog.now.procedures q)) (length c.args.catalog.now.procedures) (takers c.args.kinds c.args.catalog.now s) c.new-tallies.result s c.new-tallies.ensures
          (count_numbers (test s) c.args.catalog.now.procedures)),
    )
