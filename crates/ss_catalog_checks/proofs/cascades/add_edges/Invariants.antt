use Rattle.std.proofs.Common.{◌≡◌, ◌++◌, map, take}
use Rattle.ss_catalog_checks.specs.Graphs.{edge}
use Rattle.ss_catalog_checks.proofs.cascades.add_edges.Given as goal

abbrev pub invariant-loop-window : goal.invariant-loop-window
invariant-loop-window l = l.edges ≡ l.fn.edges ++ map (edge l.from) (take l.window-index l.windows)
