use Rattle.std.proofs.Common.{◌≡◌, ◌++◌, drop}
use Rattle.ss_catalog_checks.specs.Graphs.{with_flag, fresh}
use Rattle.ss_catalog_checks.proofs.graph.see_all.Given as goal

abbrev pub invariant-loop-node : goal.invariant-loop-node
invariant-loop-node l =
    (with_flag l.seen (drop l.node-index l.nodes) ≡ with_flag l.fn.seen l.nodes) × (l.todo ++ fresh l.seen (drop l.node-index l.nodes) ≡ l.fn.todo ++ fresh l.fn.seen l.nodes)
