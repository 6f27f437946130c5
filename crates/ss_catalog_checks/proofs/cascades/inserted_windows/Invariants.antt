use Rattle.std.proofs.Common.{◌≡◌, ◌++◌, drop}
use Rattle.std.specs.List.{flat_map}
use Rattle.ss_catalog_checks.specs.Cascades.{statement_windows}
use Rattle.ss_catalog_checks.proofs.cascades.inserted_windows.Given as goal

abbrev pub invariant-loop-statement : goal.invariant-loop-statement
invariant-loop-statement l = l.windows ++ flat_map statement_windows (drop l.statement-index l.statements) ≡ flat_map statement_windows l.statements
