-- What recovering whatever a crash leaves in a weak session comes to.
use Rattle.std.specs.Prelude.{◌≡◌, ℕ, ◌+◌, List, ◌++◌, length}
use Rattle.ss_model.specs.declared.catalog.Catalog.{Catalog}
use Rattle.ss_model.specs.declared.entry.Listed.{Listed}
use Rattle.ss_model.specs.Accepted.{Accepted}
use Rattle.ss_model.specs.Database.{Database}
use Rattle.ss_model.specs.Recovery.{Origin, Weak}
use Rattle.ss_model.specs.Replays.{Replays}
use Rattle.ss_model.specs.Settling.{kept}
use Rattle.ss_disk.specs.Files.{Files}
use Rattle.ss_fronts.specs.Fronts.{FrontStands, LedTo}
use Rattle.ss_fronts.specs.WeakFronts.{ReadsWeakFront}
use Rattle.ss_fronts.specs.WeakLaws.{FrontRecovers}
use Rattle.ss_headline.specs.Disks.{DiskChange, AtEachMoment}

-- what a weak recovery makes of files: they are a front, of which is known what recovering its requests comes to
pub record RecoversAsFront (catalog : Catalog) (o : Origin) (list : List Listed) (least : ℕ) (image : Files) : Type 0 where
  pub front : ReadsWeakFront catalog o.db o.place (o.known ++ list) least image
  pub recovers : FrontRecovers catalog o.db o.place (o.known ++ list) least image front

-- behind a weak session that ended as done recovery has all requests since the image, with the pushes' outcomes
pub record RecoversAll (catalog : Catalog) (o : Origin) (list : List Listed) (image : Files) : Type 0 where
  pub recovered : RecoversAsFront catalog o list (o.place + length (o.known ++ list)) image
  pub to_the_end : recovered.front.some ≡ length (o.known ++ list)

-- law: this holds of each image at the exit of such a session
abbrev pub AllRecovers : Type 0
AllRecovers =
    (catalog : Catalog) → Accepted catalog → (o : Origin) (db : Database) (first : ℕ) (list : List Listed) (image : Files) →
    LedTo catalog o db first → Replays catalog db list → FrontStands (Weak o) catalog db first list (first + length list) image →
    RecoversAll catalog o list image

module _ {D : Type 0} (disk_of : D → D → DiskChange) where
  -- law: whatever a crash in a weak session leaves anew, recovery has of it the weak list of its requests, with what is known of it
  abbrev pub CrashesRecover : Type 0
  CrashesRecover =
      (catalog : Catalog) → Accepted catalog → (o : Origin) (db : Database) (first : ℕ) (list : List Listed) (least : ℕ) (old new : D) →
      LedTo catalog o db first → Replays catalog db list → AtEachMoment (disk_of old new) (FrontStands (Weak o) catalog db first list least) →
      AtEachMoment (disk_of old new) (RecoversAsFront catalog o list least)

  -- law: what holds of a weak session's crashes from one origin holds from each of which the same is kept
  abbrev pub CrashesHoldFromEach : Type 0
  CrashesHoldFromEach =
      (catalog : Catalog) (o : Origin) (x : Database) → kept catalog o.db ≡ kept catalog x →
      (db other : Database) (first : ℕ) (list : List Listed) (least : ℕ) (image : Files) →
      FrontStands (Weak o) catalog db first list least image → FrontStands (Weak (record o { db = x })) catalog other first list least image
