use Rattle.std.proofs.Common.{◌≡◌, map, take}
use Rattle.ss_catalog_resolve.specs.Numbered.{window_of}
use Rattle.ss_catalog_resolve.proofs.definitions.windows_of.Given as goal

abbrev pub invariant-loop-window : goal.invariant-loop-window
invariant-loop-window l = l.defs ≡ map (window_of l.procedures) (take l.window-index l.windows)
