use Rattle.std.proofs.Common.{take}
use Rattle.ss_catalog_checks.specs.Graphs.{IsGraphOf}
use Rattle.ss_catalog_checks.proofs.graph.graph_from.Given as goal

abbrev pub invariant-loop-edge : goal.invariant-loop-edge
invariant-loop-edge l = IsGraphOf (take l.edge-index l.edges) l.graph
