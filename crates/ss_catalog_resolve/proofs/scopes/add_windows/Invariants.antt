use Rattle.std.proofs.Common.{◌≡◌, ◌++◌, take}
use Rattle.ss_model.specs.Results.{map_indexed}
use Rattle.ss_catalog_resolve.specs.Scopes.{named_window}
use Rattle.ss_catalog_resolve.proofs.scopes.add_windows.Given as goal

abbrev pub invariant-loop-at : goal.invariant-loop-at
invariant-loop-at l = l.names ≡ l.initial.names ++ map_indexed named_window (take l.at l.windows)
