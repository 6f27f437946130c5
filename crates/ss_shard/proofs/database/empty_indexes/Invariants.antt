use Rattle.std.proofs.Common.{◌≡◌, take}
use Rattle.ss_shard.specs.Databases.{empty_indexes}
use Rattle.ss_shard.proofs.database.empty_indexes.Given as goal

abbrev pub invariant-loop-table : goal.invariant-loop-table
invariant-loop-table l = l.made ≡ empty_indexes l.part (take l.table-index l.tables)
