-- The premises of a replay, met by a database that was just opened.
use Rattle.std.proofs.Common.{ℕ, List, [], length, ap, arith}
use Rattle.ss_value.specs.Rows.{Rows}
use Rattle.ss_model.specs.declared.catalog.Catalog.{Catalog}
use Rattle.ss_model.specs.Accepted.{Accepted}
use Rattle.ss_model.specs.Database.{empty_database}
use Rattle.ss_model.specs.WholeDatabase.{HadAtMost}
use Rattle.ss_model_kept.proofs.CallerLemmas.{get_or-alike}
use Rattle.ss_model_laws.proofs.CallerLemmas.{empty_whole}
use Rattle.ss_shard.specs.declared.database.Database.{Database}
use Rattle.ss_shard.specs.Databases.{StandsFor}
use Rattle.ss_replay.specs.Replaying.{IsOnAt}

-- the empty database has had no batch, so it has had no more than there were executions
pub empty_had : (catalog : Catalog) (first : ℕ) → HadAtMost first (empty_database catalog)
empty_had catalog first = record {
  streams = λ s. omega (arith, ap length (get_or-alike {A = List Rows} (length catalog.streams) s []));
  counts = λ q. omega (arith, get_or-alike {A = ℕ} (length catalog.procedures) q 0);
}

-- the empty database can take entries from any place on
pub opening_takes : (catalog : Catalog) → Accepted catalog → (database : Database) (first : ℕ) → StandsFor catalog database (empty_database catalog) → IsOnAt catalog database first (empty_database catalog)
opening_takes catalog accepted database first stands = record {
  on = record { stands = stands; whole = empty_whole catalog accepted };
  had = empty_had catalog first;
}
