use Rattle.std.proofs.Common.{◌≡◌, [], get_or, ap, subst, sym, ◌∙◌}
use Rattle.ss_catalog_checks.specs.Graphs.{is_among, has_edge, FlagsReached}
use Rattle.ss_catalog_checks.proofs.Graphs.{row_there, row_missing}
use Rattle.ss_catalog_checks.proofs.Handing.{cycle_flagged, no_edges_reported}
use Rattle.ss_catalog_checks.proofs.cycles.is_on_cycle.Goals as goal

pub reached_nodes-requires-clause-within : goal.reached_nodes-requires-clause-within
reached_nodes-requires-clause-within c = λ n h.
    let row : get_or c.args.graph.now c.args.procedure [] ≡ c.in-Some.next.now = row_there c.args.graph.now c.args.procedure c.in-Some.next.now c.in-Some.ensures.item in
    c.requires.graph.closed c.args.procedure n (ap (λ ns. is_among ns n) (row ∙ sym c.as_slice.ensures) ∙ h)

pub returns-in_ok-seen-in-Some : goal.returns-in_ok-seen-in-Some
returns-in_ok-seen-in-Some c =
    let row : get_or c.args.graph.now c.args.procedure [] ≡ c.in-Some.next.now = row_there c.args.graph.now c.args.procedure c.in-Some.next.now c.in-Some.ensures.item in
    cycle_flagged c.args.catalog.now c.args.graph.now c.requires.graph c.args.procedure c.requires.within c.in_ok-seen-in-Some.seen c.is_set.result
    (subst (λ ns. FlagsReached (has_edge c.args.graph.now) (is_among ns) c.in_ok-seen-in-Some.seen) (c.as_slice.ensures ∙ sym row) c.in_ok-seen-in-Some.ensures) c.is_set.ensures

pub returns-in-None : goal.returns-in-None
returns-in-None c =
    no_edges_reported c.args.catalog.now c.args.graph.now c.requires.graph c.args.procedure c.requires.within (row_missing c.args.graph.now c.args.procedure (sym c.in-None.ensures.value))
