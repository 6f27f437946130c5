use Rattle.std.proofs.Common.{◌≡◌, map, take}
use Rattle.ss_catalog_resolve.specs.Numbered.{table_of}
use Rattle.ss_catalog_resolve.proofs.definitions.tables_of.Given as goal

abbrev pub invariant-loop-table : goal.invariant-loop-table
invariant-loop-table l = l.defs ≡ map table_of (take l.table-index l.tables)
