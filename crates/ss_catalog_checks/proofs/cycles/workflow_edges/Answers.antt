use Rattle.std.proofs.Common.{◌++◌, ◌-◌, ◌+◌, ℕ, length, slice_get, append_assoc, ap, sym, ◌∙◌}
use Rattle.std.specs.List.{flat_map, range_with_len}
use Rattle.ss_catalog_checks.specs.Workflows.{procedure_edges}
use Rattle.ss_lemmas.proofs.Firsts.{range_on}
use Rattle.ss_catalog_checks.proofs.cycles.workflow_edges.Goals as goal

pub loop-procedure-preserved : goal.loop-procedure-preserved
loop-procedure-preserved c =
    let count = length c.as_slice-count.result.now in
    let row = λ (p : ℕ). procedure_edges count p (slice_get c.args.catalog.now.procedures p) in
    let rest = flat_map row (range_with_len (c.loop-procedure.procedure + 1) (count - (c.loop-procedure.procedure + 1))) in
    ap (λ es. es ++ rest) c.in_ok-add_procedure.ensures
    ∙ append_assoc c.loop-procedure.edges (row c.loop-procedure.procedure) rest
    ∙ ap (λ ps. c.loop-procedure.edges ++ flat_map row ps) (sym (range_on count c.loop-procedure.procedure c.loop-procedure-test.true))
    ∙ c.loop-procedure.invariant
