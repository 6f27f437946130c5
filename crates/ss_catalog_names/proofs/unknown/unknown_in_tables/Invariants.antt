use Rattle.std.proofs.Common.{◌≡◌, drop}
use Rattle.std.specs.List.{flat_map}
use Rattle.ss_catalog_outline.specs.Unknown.{own_table_uses, first_unknown}
use Rattle.ss_catalog_names.proofs.unknown.unknown_in_tables.Given as goal

abbrev pub invariant-loop-table : goal.invariant-loop-table
invariant-loop-table l = first_unknown (flat_map (own_table_uses) l.tables) ≡ first_unknown (flat_map (own_table_uses) (drop l.table-index l.tables))
