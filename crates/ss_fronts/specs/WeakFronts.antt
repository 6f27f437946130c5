-- What a crash leaves of a weak store while its history grows: an image at some place of it, and the requests from there on,
-- up to another place. A history is the list that the entries read at an opening led to, followed by the list of the run.
use Rattle.std.specs.Prelude.{◌≤◌, ℕ, ◌+◌, List, length, take, drop}
use Rattle.ss_model.specs.declared.catalog.Catalog.{Catalog}
use Rattle.ss_model.specs.declared.entry.Entry.{Entry}
use Rattle.ss_model.specs.declared.entry.Listed.{Listed}
use Rattle.ss_model.specs.Database.{Database}
use Rattle.ss_model.specs.Replays.{after}
use Rattle.ss_model.specs.Asked.{asked_of, listed_entries}
use Rattle.ss_disk.specs.Files.{Files}
use Rattle.ss_cmdlog.specs.Generation.{Stood}
use Rattle.ss_fronts.specs.WeakReads.{IsReadAs, WeakReads}

-- the list between two of its positions
abbrev pub between : ℕ → ℕ → List Listed → List Listed
between from to list = drop from (take to list)

-- the requests between them
abbrev pub asked_between : ℕ → ℕ → List Listed → List Entry
asked_between from to list = asked_of (listed_entries (between from to list))

-- The files are read as the database behind some first entries of the history, with the requests of the next ones; the last
-- of these stands below a place that isn't below this one.
pub record ReadsWeakFront (catalog : Catalog) (db : Database) (first : ℕ) (history : List Listed) (least : ℕ) (image : Files) : Type 0 where
  pub before : ℕ
  pub some : ℕ
  pub ordered : before ≤ some
  pub within : some ≤ length history
  pub enough : least ≤ first + some
  pub reads : WeakReads catalog image (first + before) (after catalog db (take before history)) (asked_between before some history)

-- any such files
abbrev pub WeakPrefix : Catalog → Database → ℕ → List Listed → Files → Type 0
WeakPrefix catalog db first history = ReadsWeakFront catalog db first history first

-- a generation has the requests of the history up to this position
pub record HasWeakFront (catalog : Catalog) (db : Database) (first : ℕ) (history : List Listed) (held : ℕ) (s : Stood) : Type 0 where
  pub before : ℕ
  pub ordered : before ≤ held
  pub within : held ≤ length history
  pub read : IsReadAs catalog s (first + before) (after catalog db (take before history)) (asked_between before held history)

-- the files are a front of the history that has so many of its requests at least
pub record HasAsked (catalog : Catalog) (db : Database) (first : ℕ) (history : List Listed) (n : ℕ) (image : Files) : Type 0 where
  pub front : WeakPrefix catalog db first history image
  pub enough : n ≤ length (asked_between 0 front.some history)
