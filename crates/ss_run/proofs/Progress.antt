-- What looks at the counts and streams of a store finds there.
use Rattle.std.proofs.Common.{◌≡◌, ℕ, List}
use Rattle.ss_model.specs.declared.catalog.Catalog.{Catalog}
use Rattle.ss_model.specs.Accepted.{Accepted}
use Rattle.ss_model.specs.Database.{Database}
use Rattle.ss_model.specs.Replays.{after}
use Rattle.ss_proc.proofs.CallerLemmas.{Sees, sees_of}
use Rattle.ss_run.specs.declared.entry.Store.{Store}
use Rattle.ss_run.specs.Stands.{IsAt}
use Rattle.ss_run.proofs.Entries.{in_step}

-- a store that a list led to has its counts and streams
pub sees : (catalog : Catalog) → Accepted catalog → (opening : Database) (store : Store) (counts : List ℕ) → IsAt catalog opening store → counts ≡ store.database.whole.cursors
    → Sees catalog (after catalog opening store.list) counts store.database.streams.streams
sees catalog accepted opening store counts at are = sees_of catalog store.database (after catalog opening store.list) counts (in_step catalog accepted opening store.first at.opens store.list).matched.shape at.stands are
