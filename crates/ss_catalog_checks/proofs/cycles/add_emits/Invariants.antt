use Rattle.std.proofs.Common.{◌≡◌, ◌++◌, drop}
use Rattle.std.specs.List.{flat_map}
use Rattle.ss_catalog_checks.specs.Workflows.{emit_edges}
use Rattle.ss_catalog_checks.proofs.cycles.add_emits.Given as goal

abbrev pub invariant-loop-step : goal.invariant-loop-step
invariant-loop-step l = l.edges ++ flat_map (emit_edges l.count l.procedure) (drop l.step-index l.body) ≡ l.fn.edges ++ flat_map (emit_edges l.count l.procedure) l.body
