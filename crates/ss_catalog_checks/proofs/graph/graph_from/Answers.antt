use Rattle.std.proofs.Common.{take, sym, subst}
use Rattle.std.proofs.lemmas.List.{take_more}
use Rattle.ss_catalog_checks.specs.Graphs.{IsGraphOf}
use Rattle.ss_catalog_checks.proofs.graph.graph_from.Goals as goal

pub loop-edge-preserved : goal.loop-edge-preserved
loop-edge-preserved c =
    subst (λ es. IsGraphOf es c.join.new.graph) (sym (take_more c.args.edges.now c.loop-edge.edge-index _ c.loop-edge-test.true))
    (c.in_ok-join.ensures (take c.loop-edge.edge-index c.args.edges.now) c.loop-edge.invariant)
