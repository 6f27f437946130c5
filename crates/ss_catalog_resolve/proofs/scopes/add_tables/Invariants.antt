use Rattle.std.proofs.Common.{◌≡◌, ◌++◌, take}
use Rattle.ss_model.specs.Results.{map_indexed}
use Rattle.ss_catalog_resolve.specs.Scopes.{named_table}
use Rattle.ss_catalog_resolve.proofs.scopes.add_tables.Given as goal

abbrev pub invariant-loop-at : goal.invariant-loop-at
invariant-loop-at l = l.names ≡ l.initial.names ++ map_indexed named_table (take l.at l.tables)
