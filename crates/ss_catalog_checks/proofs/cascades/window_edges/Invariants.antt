use Rattle.std.proofs.Common.{◌≡◌, ◌++◌, drop}
use Rattle.std.specs.List.{flat_map}
use Rattle.ss_catalog_checks.specs.Cascades.{trigger_edges}
use Rattle.ss_catalog_checks.proofs.cascades.window_edges.Given as goal

abbrev pub invariant-loop-trigger : goal.invariant-loop-trigger
invariant-loop-trigger l = l.edges ++ flat_map trigger_edges (drop l.trigger-index l.triggers) ≡ flat_map trigger_edges l.triggers
