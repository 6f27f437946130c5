-- Weak stores: they stand for one thing, and what is recovered of a front of a history.
use Rattle.std.specs.Prelude.{◌≡◌, ℕ, ◌+◌, List, length, take}
use Rattle.ss_model.specs.declared.catalog.Catalog.{Catalog}
use Rattle.ss_model.specs.declared.entry.Listed.{Listed}
use Rattle.ss_model.specs.Accepted.{Accepted}
use Rattle.ss_model.specs.Database.{Database}
use Rattle.ss_model.specs.Replays.{Replays, after}
use Rattle.ss_model.specs.Settling.{Kept, kept}
use Rattle.ss_model.specs.WholeDatabase.{WholeDatabase}
use Rattle.ss_weak_lists.specs.WeakLists.{RecoversWeakly}
use Rattle.ss_disk.specs.Files.{Files}
use Rattle.ss_fronts.specs.WeakReads.{WeaklyStands}
use Rattle.ss_fronts.specs.WeakFronts.{between, ReadsWeakFront}

-- law: files stand for one count, and for one that is kept
abbrev pub WeaklyStandsForOne : Type 0
WeaklyStandsForOne =
    (catalog : Catalog) → Accepted catalog → (image : Files) (m n : ℕ) (j k : Kept) → WeaklyStands catalog image m j → WeaklyStands catalog image n k →
    (m ≡ n) × (j ≡ k)

-- What is recovered of a front: the weak list of the requests between two positions of the history, of which is known what
-- the model says of it, and the files stand for the place and the database behind it.
pub record FrontRecovers (catalog : Catalog) (db : Database) (first : ℕ) (history : List Listed) (least : ℕ) (image : Files)
    (front : ReadsWeakFront catalog db first history least image) : Type 0 where
  pub recovers : RecoversWeakly catalog (after catalog db (take front.before history)) (between front.before front.some history)
  pub stands : WeaklyStands catalog image (first + front.before + length recovers.again)
      (kept catalog (after catalog (after catalog db (take front.before history)) recovers.again))

-- law: this holds of each front of a history that replays from a whole database of an accepted catalogue
abbrev pub FrontsRecover : Type 0
FrontsRecover =
    (catalog : Catalog) → Accepted catalog → (db : Database) → WholeDatabase catalog db → (first : ℕ) (history : List Listed) → Replays catalog db history →
    (least : ℕ) (image : Files) (front : ReadsWeakFront catalog db first history least image) → FrontRecovers catalog db first history least image front

-- law: a front from one database is one from each of which the same is kept
abbrev pub WeakFrontsFromEach : Type 0
WeakFrontsFromEach =
    (catalog : Catalog) (x y : Database) → kept catalog x ≡ kept catalog y → (first : ℕ) (history : List Listed) (least : ℕ) (image : Files) →
    ReadsWeakFront catalog x first history least image → ReadsWeakFront catalog y first history least image
