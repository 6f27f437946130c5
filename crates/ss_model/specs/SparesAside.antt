-- What stays the same where a catalogue has more bodies to be installed.
use Rattle.std.specs.Prelude.{◌≡◌, ℕ, true, List, [], get_or, slice_get, Some}
use Rattle.std.specs.List.{AllByRecursion}
use Rattle.ss_model.specs.declared.catalog.Body.{Body}
use Rattle.ss_model.specs.declared.catalog.Catalog.{Catalog}
use Rattle.ss_model.specs.declared.catalog.Procedure.{Procedure}
use Rattle.ss_model.specs.declared.entry.Entry.{Entry}
use Rattle.ss_model.specs.declared.entry.Listed.{Listed}
use Rattle.ss_model.specs.Database.{Database, Applied, apply, spare_bodies, has_spare, body_named}
use Rattle.ss_model.specs.Replays.{Replays, after}
use Rattle.ss_model.specs.Settling.{kept}
use Rattle.ss_model.specs.Spares.{AcceptedBody}
use Rattle.ss_model.specs.Accepted.{Accepted}
use Rattle.ss_model.specs.WholeDatabase.{WholeDatabase}

-- the catalogue with these bodies to be installed, by the numbers of the procedures
abbrev pub with_spares : Catalog → List (List Body) → Catalog
with_spares catalog spares = record catalog { spares = spares }

-- these bodies may be installed, and a text that has a body in the catalogue has the same one here
pub record GoesOnWith (catalog : Catalog) (spares : List (List Body)) : Type 0 where
  pub accepted : (q : ℕ) (p : Procedure) → slice_get catalog.procedures q ≡ Some p → AllByRecursion (λ (b : Body). AcceptedBody catalog q p b.steps) (get_or spares q [])
  pub same : (q : ℕ) (text : List ℕ) → has_spare catalog q text ≡ true → body_named text (get_or spares q []) ≡ body_named text (spare_bodies catalog q)

-- law: the catalogue stays accepted, whole databases stay whole, entries that have a value on one have the same, lists that replay
-- do so still, to the same end, and the same is kept
pub record SparesMayBeAdded (catalog : Catalog) (spares : List (List Body)) : Type 0 where
  pub accepted : Accepted (with_spares catalog spares)
  pub whole : (db : Database) → WholeDatabase catalog db → WholeDatabase (with_spares catalog spares) db
  pub applies : (db : Database) (e : Entry) (a : Applied) → WholeDatabase catalog db → apply catalog db e ≡ Some a → apply (with_spares catalog spares) db e ≡ Some a
  pub replays : (db : Database) (list : List Listed) → WholeDatabase catalog db → Replays catalog db list → Replays (with_spares catalog spares) db list
  pub ends : (db : Database) (list : List Listed) → WholeDatabase catalog db → Replays catalog db list → after (with_spares catalog spares) db list ≡ after catalog db list
  pub keeps : (db : Database) → kept (with_spares catalog spares) db ≡ kept catalog db

-- law: this holds of any bodies that an accepted catalogue may go on with
abbrev pub SparesAside : Type 0
SparesAside = (catalog : Catalog) → Accepted catalog → (spares : List (List Body)) → GoesOnWith catalog spares → SparesMayBeAdded catalog spares
