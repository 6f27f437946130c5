-- Which files are a front of a run's list, and which generation has one, by how the store is had again.
use Rattle.std.specs.Prelude.{◌≡◌, ◌≤◌, ℕ, ◌+◌, List, [], ◌++◌, length, take}
use Rattle.ss_model.specs.declared.catalog.Catalog.{Catalog}
use Rattle.ss_model.specs.declared.entry.Listed.{Listed}
use Rattle.ss_model.specs.declared.entry.Mode.{Mode}
use Rattle.ss_model.specs.declared.entry.Mode.TheVariants as modes
use Rattle.ss_model.specs.Asked.{asked_of, listed_entries}
use Rattle.ss_model.specs.Database.{Database, empty_database}
use Rattle.ss_model.specs.Recovery.{Recovery, Strong, Weak, Origin}
use Rattle.ss_model.specs.Replays.{Replays, after}
use Rattle.ss_model.specs.Settling.{IsWeakList, kept}
use Rattle.ss_model.specs.WholeDatabase.{WholeDatabase}
use Rattle.ss_disk.specs.Files.{Files}
use Rattle.ss_disk.specs.Moments.{StaysFrom}
use Rattle.ss_cmdlog.specs.Generation.{Stood}
use Rattle.ss_standing.specs.Standing.{Replayed, Stands, StandsForAtLeast, StandsForFront}
use Rattle.ss_fronts.specs.WeakReads.{WeakReads}
use Rattle.ss_fronts.specs.WeakFronts.{HasAsked, HasWeakFront, ReadsWeakFront}

-- the mode of such a store
abbrev pub mode_of : Recovery → Mode
mode_of Strong = modes.Strong
mode_of (Weak o) = modes.Weak

-- the requests behind the origin led to this place, with a settling before each and behind the last, and to a database of which
-- the same is kept as of this one
pub record LedTo (catalog : Catalog) (o : Origin) (db : Database) (first : ℕ) : Type 0 where
  pub whole : WholeDatabase catalog o.db
  pub is_weak : IsWeakList catalog o.db (asked_of (listed_entries o.known)) (listed_entries o.known)
  pub replays : Replays catalog o.db o.known
  pub reached : kept catalog db ≡ kept catalog (after catalog o.db o.known)
  pub placed : first ≡ o.place + length o.known

-- a strong run begins anywhere, and a weak one where its origin led to
abbrev pub BeganAt : Recovery → Catalog → Database → ℕ → Type 0
BeganAt Strong catalog db first = Unit {0}
BeganAt (Weak o) catalog db first = LedTo catalog o db first

-- The files are what a run began at. A strong store stands for so many executions and for the database; a weak one is read as the origin,
-- with the requests that led from there to the database.
abbrev pub StoodAs : Recovery → Catalog → Database → ℕ → Files → Type 0
StoodAs Strong catalog db first image = Stands catalog image first (kept catalog db)
StoodAs (Weak o) catalog db first image = WeakReads catalog image o.place o.db (asked_of (listed_entries o.known))

-- how a store is had again that was just made in this mode: of a weak one the history begins at the empty database
abbrev pub fresh_recovery : Mode → Catalog → Recovery
fresh_recovery modes.Strong catalog = Strong
fresh_recovery modes.Weak catalog = Weak (record { place = 0; db = empty_database catalog; known = [] })

-- The files are a front of the run's list that ends at this place at least. In strong mode they stand for it. In weak mode they are read
-- as a database of the run's history, with the requests behind it; the history is what the origin led to, and then the list.
abbrev pub FrontStands : Recovery → Catalog → Database → ℕ → List Listed → ℕ → Files → Type 0
FrontStands Strong catalog db first list least image = StandsForFront catalog db first list least image
FrontStands (Weak o) catalog db first list least image = ReadsWeakFront catalog o.db o.place (o.known ++ list) least image

-- The files have so much at least, whatever it is a front of: in strong mode so many executions, and in weak mode so many of the requests
-- of the history.
abbrev pub AtLeast : Recovery → Catalog → List Listed → ℕ → Files → Type 0
AtLeast Strong catalog list n image = StandsForAtLeast catalog n image
AtLeast (Weak o) catalog list n image = HasAsked catalog o.db o.place (o.known ++ list) n image

-- so much that a crash at some moment could not take, from this one on up to now, a crash at no later moment takes
abbrev pub StandsOnBy : {D : Type 0} → Recovery → Catalog → List Listed → (D → ℕ) → (D → ℕ → Files → Type 0) → ℕ → D → Type 0
StandsOnBy recovery catalog list moment images from now = (n : ℕ) → StaysFrom moment images from now (AtLeast recovery catalog list n)

-- a strong generation stands for the first entries of the list, so many
pub record HoldsStrongFront (catalog : Catalog) (db : Database) (first : ℕ) (list : List Listed) (held : ℕ) (s : Stood) : Type 0 where
  pub within : held ≤ length list
  pub replayed : Replayed catalog s (first + held) (kept catalog (after catalog db (take held list)))

-- a generation has the first entries of the list, so many; a weak one has their requests
abbrev pub HoldsFront : Recovery → Catalog → Database → ℕ → List Listed → ℕ → Stood → Type 0
HoldsFront Strong catalog db first list held s = HoldsStrongFront catalog db first list held s
HoldsFront (Weak o) catalog db first list held s = HasWeakFront catalog o.db o.place (o.known ++ list) (length o.known + held) s
