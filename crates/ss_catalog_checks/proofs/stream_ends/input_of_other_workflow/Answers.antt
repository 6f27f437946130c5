use Rattle.std.proofs.Common.{slice_get, length, arith, ap, sym, ◌∙◌}
use Rattle.ss_catalog_checks.specs.StreamEnds.{foreign_inputs}
use Rattle.ss_lemmas.proofs.Firsts.{flat_goes_on, empty_from_none}
use Rattle.ss_catalog_checks.proofs.stream_ends.input_of_other_workflow.Goals as goal

pub loop-procedure-preserved : goal.loop-procedure-preserved
loop-procedure-preserved c =
    ap (λ ss. slice_get ss 0)
    (sym (flat_goes_on (foreign_inputs c.args.catalog.now) (length c.args.catalog.now.procedures) c.loop-procedure.procedure (omega arith) (empty_from_none _ (sym c.in-None.ensures))))
    ∙ c.loop-procedure.invariant
