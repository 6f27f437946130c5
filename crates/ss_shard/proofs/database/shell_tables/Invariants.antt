use Rattle.std.proofs.Common.{◌≡◌, take}
use Rattle.ss_shard.specs.Databases.{shell_tables}
use Rattle.ss_shard.proofs.database.shell_tables.Given as goal

abbrev pub invariant-loop-table : goal.invariant-loop-table
invariant-loop-table l = l.made ≡ shell_tables l.parts l.part (take l.table-index l.tables)
