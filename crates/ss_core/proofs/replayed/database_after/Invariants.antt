use Rattle.std.proofs.Common.{◌≡◌, take}
use Rattle.ss_model.specs.Database.{empty_database}
use Rattle.ss_model.specs.Replays.{after}
use Rattle.ss_model_computed.specs.Databases.{database_of}
use Rattle.ss_core.proofs.replayed.database_after.Given as goal

abbrev pub invariant-loop-listed : goal.invariant-loop-listed
invariant-loop-listed l = database_of l.database ≡ after l.catalog (empty_database l.catalog) (take l.listed-index l.list)
