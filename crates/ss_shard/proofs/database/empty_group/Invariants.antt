use Rattle.std.proofs.Common.{◌≡◌, take}
use Rattle.ss_shard.specs.Databases.{empty_group}
use Rattle.ss_shard.proofs.database.empty_group.Given as goal

abbrev pub invariant-loop-columns : goal.invariant-loop-columns
invariant-loop-columns l = l.made ≡ empty_group l.part (take l.columns-index l.listed)
