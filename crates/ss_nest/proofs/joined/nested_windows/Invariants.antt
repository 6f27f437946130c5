use Rattle.std.proofs.Common.{◌≡◌, map, take}
use Rattle.ss_model.specs.Nests.{nested_window}
use Rattle.ss_nest.proofs.joined.nested_windows.Given as goal

abbrev pub invariant-loop-window : goal.invariant-loop-window
invariant-loop-window l = l.all ≡ map (nested_window l.nests) (take l.window-index l.windows)
