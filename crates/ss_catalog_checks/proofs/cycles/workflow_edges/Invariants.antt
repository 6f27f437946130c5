use Rattle.std.proofs.Common.{◌≡◌, ◌++◌, ◌-◌, slice_get}
use Rattle.std.specs.List.{flat_map, range_with_len}
use Rattle.ss_catalog_checks.specs.Workflows.{procedure_edges, workflow_edges}
use Rattle.ss_catalog_checks.proofs.cycles.workflow_edges.Given as goal

abbrev pub invariant-loop-procedure : goal.invariant-loop-procedure
invariant-loop-procedure l =
    l.edges ++ flat_map (λ p. procedure_edges l.count p (slice_get l.catalog.procedures p)) (range_with_len l.procedure (l.count - l.procedure)) ≡ workflow_edges l.catalog
