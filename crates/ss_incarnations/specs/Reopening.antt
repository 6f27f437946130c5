-- How a run goes on where a disk's fault ends an incarnation and the disk is opened again.
use Rattle.std.specs.Prelude.{◌≡◌, ◌≤◌, ◌+◌, ℕ, List, [], ◌∷◌, ◌++◌, length, take}
use Rattle.ss_model.specs.declared.catalog.Catalog.{Catalog}
use Rattle.ss_model.specs.declared.entry.Listed.{Listed}
use Rattle.ss_model.specs.Accepted.{Accepted}
use Rattle.ss_model.specs.Database.{Database}
use Rattle.ss_model.specs.Recovery.{Strong}
use Rattle.ss_model.specs.Replays.{Replays, after}
use Rattle.ss_model.specs.Settling.{kept}
use Rattle.ss_model.specs.WholeDatabase.{WholeDatabase}
use Rattle.ss_disk.specs.Kinds.{DiskKind}
use Rattle.ss_standing.specs.Standing.{Stands}
use Rattle.ss_headline.specs.Between.{AreOneList}
use Rattle.ss_headline.specs.Disks.{DiskChange, disk_of}
use Rattle.ss_headline.specs.Layers.{Opened, Closed, Receipted}
use Rattle.ss_headline.specs.Sentences.{InOrder, ReceiptsStay, EveryReceiptStands}
use Rattle.ss_incarnations.specs.Incarnations.{Incarnation, AreIncarnations}
use Rattle.ss_incarnations.specs.Openings.{NotOpened}

-- What a run has come to where an engine was closed, but for its report: the disk stood for this database, the run's list is the last
-- incarnation's, and all that this has receipts of stands.
pub record Lived {D : Type 0} (kind : DiskKind D) (catalog : Catalog) (db : Database) (first : ℕ) (last : Incarnation) (earlier : List Incarnation)
    (old new : D) : Type 0 where
  pub whole : WholeDatabase catalog db
  pub stood : kind.tells → Stands catalog (kind.seen old) first (kept catalog db)
  pub one_by_one : Replays catalog db last.list
  pub in_order : InOrder catalog db last.list
  pub wherever_a_crash_falls : kind.honest → AreIncarnations kind catalog db first (last ∷ earlier) old new
  pub receipts_stay : ReceiptsStay Strong catalog last.list (disk_of kind old new)
  pub every_receipt_stands : EveryReceiptStands Strong catalog db first last.list last.receipted (disk_of kind old new)

-- What was found behind an incarnation is a front of its list that has all that was receipted. With the list of the engine that was opened
-- there and closed the run has one incarnation more, which began at this moment and has receipts of all below this count.
pub record LivesOn {D : Type 0} (kind : DiskKind D) (catalog : Catalog) (db : Database) (first : ℕ) (last : Incarnation) (earlier : List Incarnation)
    (from : Database) (place : ℕ) (list : List Listed) (count moment : ℕ) (old new : D) : Type 0 where
  pub stayed : ℕ
  pub within : stayed ≤ length last.list
  pub place_is : place ≡ first + stayed
  pub receipted : last.receipted ≤ place
  pub lists : AreOneList catalog db from first place (take stayed last.list) list
  pub ends : kept catalog (after catalog from list) ≡ kept catalog (after catalog db (take stayed last.list ++ list))
  pub lived : Lived kind catalog db first (record { moment = moment; list = take stayed last.list ++ list; receipted = count }) (last ∷ earlier) old new

module _ {D : Type 0} (kind : DiskKind D) where
  abbrev pub change : D → D → DiskChange
  change = disk_of kind

  -- law: an opening and an engine that was closed are one incarnation
  abbrev pub FirstIncarnation : Type 0
  FirstIncarnation =
      (catalog : Catalog) (db : Database) (first : ℕ) (list : List Listed) (count : ℕ) (old mid new : D) →
      Opened Strong catalog db first (change old mid) → Closed Strong catalog db first list (change mid new) →
      Receipted Strong catalog db first list count (change mid new) →
      Lived kind catalog db first (record { moment = kind.moment old; list = list; receipted = count }) [] old new

  -- law: where no store was opened behind it, a run has the incarnations that it had
  abbrev pub NoneIsReopened : Type 0
  NoneIsReopened =
      (catalog : Catalog) (db : Database) (first : ℕ) (last : Incarnation) (earlier : List Incarnation) (old mid new : D) →
      Lived kind catalog db first last earlier old mid → NotOpened catalog (change mid new) → Lived kind catalog db first last earlier old new

  -- law: and where one was, but no engine was opened on it
  abbrev pub NoEngineIsOpened : Type 0
  NoEngineIsOpened =
      (catalog : Catalog) (db : Database) (first : ℕ) (last : Incarnation) (earlier : List Incarnation) (from : Database) (place : ℕ) (old mid again : D) →
      Lived kind catalog db first last earlier old mid → Opened Strong catalog from place (change mid again) →
      Lived kind catalog db first last earlier old again

  -- law: where a store was opened on an honest disk, and an engine on it was closed, a run has one incarnation more
  abbrev pub OneMoreIncarnation : Type 0
  OneMoreIncarnation =
      (catalog : Catalog) → Accepted catalog → (db : Database) (first : ℕ) (last : Incarnation) (earlier : List Incarnation) (from : Database) (place : ℕ)
      (list : List Listed) (count : ℕ) (old mid again new : D) → kind.honest → Lived kind catalog db first last earlier old mid →
      Opened Strong catalog from place (change mid again) → Closed Strong catalog from place list (change again new) →
      Receipted Strong catalog from place list count (change again new) →
      LivesOn kind catalog db first last earlier from place list count (kind.moment again) old new
