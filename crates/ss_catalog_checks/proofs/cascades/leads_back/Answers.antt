use Rattle.std.proofs.Common.{◌≡◌, ap, subst, sym, ◌∙◌}
use Rattle.std.specs.List.{flat_map}
use Rattle.ss_catalog_checks.specs.Cascades.{statement_windows, inserted_windows}
use Rattle.ss_catalog_checks.specs.Graphs.{is_among, has_edge, FlagsReached}
use Rattle.ss_catalog_checks.proofs.Firing.{starts_within, back_told}
use Rattle.ss_catalog_checks.proofs.cascades.leads_back.Goals as goal

pub reached_nodes-requires-clause-within : goal.reached_nodes-requires-clause-within
reached_nodes-requires-clause-within c = λ n h.
    let starts : c.as_slice-in-Window.result.now ≡ inserted_windows c.in-Some.found.now = c.as_slice-in-Window.ensures ∙ c.in_ok-windows-in-Window.ensures ∙ ap (flat_map statement_windows) c.as_slice.ensures in
    starts_within c.args.catalog.now c.args.graph.now c.requires c.args.trigger c.in-Some.found.now c.in-Some.ensures.item c.in-Window.field-0 c.in-Window.is n (ap (λ ns. is_among ns n) (sym starts) ∙ h)

pub returns-in_ok-seen-in-Window : goal.returns-in_ok-seen-in-Window
returns-in_ok-seen-in-Window c =
    let starts : c.as_slice-in-Window.result.now ≡ inserted_windows c.in-Some.found.now = c.as_slice-in-Window.ensures ∙ c.in_ok-windows-in-Window.ensures ∙ ap (flat_map statement_windows) c.as_slice.ensures in
    back_told c.args.catalog.now c.args.graph.now c.requires c.args.trigger c.in-Some.found.now c.in-Some.ensures.item c.in_ok-seen-in-Window.seen
    (subst (λ ns. FlagsReached (has_edge c.args.graph.now) (is_among ns) c.in_ok-seen-in-Window.seen) starts c.in_ok-seen-in-Window.ensures) c.any_back.result c.any_back.ensures
