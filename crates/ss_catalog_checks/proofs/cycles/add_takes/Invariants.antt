use Rattle.std.proofs.Common.{◌≡◌, ◌++◌, map, take}
use Rattle.ss_catalog_checks.specs.Workflows.{take_edge}
use Rattle.ss_catalog_checks.proofs.cycles.add_takes.Given as goal

abbrev pub invariant-loop-stream : goal.invariant-loop-stream
invariant-loop-stream l = l.edges ≡ l.fn.edges ++ map (take_edge l.count l.procedure) (take l.stream-index l.inputs)
