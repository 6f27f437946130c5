-- What serving requests on a store comes to, with the causes of its status.
use Rattle.std.specs.Prelude.{◌≡◌, ℕ, suc, List, Option}
use Rattle.ss_disk.specs.Kinds.{DiskKind}
use Rattle.ss_value.specs.FaultCounts.{Rose}
use Rattle.ss_model.specs.declared.catalog.Catalog.{Catalog}
use Rattle.ss_model.specs.declared.entry.Mode.{Mode}
use Rattle.ss_model.specs.declared.entry.Mode.TheVariants as modes
use Rattle.ss_model.specs.declared.entry.Request.{Request}
use Rattle.ss_model.specs.Recovery.{Strong}
use Rattle.ss_headline.specs.Disks.{DiskChange, disk_of}
use Rattle.ss_headline.specs.Layers.{Opened}
use Rattle.ss_snapshot.specs.Bodies.{GrowsTo}
use Rattle.ss_recover.specs.declared.recovered.Recovered.{Recovered}
use Rattle.ss_recover.specs.Recovering.{recovered_database, recovery_of}
use Rattle.ss_words.specs.declared.names.Show.{Show}
use Rattle.ss_refusals.specs.declared.status.Status.{Status}
use Rattle.ss_refusals.specs.declared.status.Status.TheVariants.{Done, WriteFault, Disk}
use Rattle.ss_refusals.specs.Sinks.{SinkChange}
use Rattle.ss_top.specs.declared.session.Printing.{Printing}
use Rattle.ss_top.specs.Runs.{TellsDiskFault}
use Rattle.ss_top.specs.Shows.{ShowEnds}
use Rattle.ss_top.specs.Over.{ComesOver, RoseBy}
use Rattle.ss_top.specs.Stores.{CameTo, RecoveredTo, WasOf}

-- a fault of the sink or of the disk is answered only where it was counted
abbrev pub HasStoreCause : Status → SinkChange → DiskChange → Type 0
HasStoreCause WriteFault w disk = Rose w.faults_before w.faults_now
HasStoreCause Disk w disk = Rose disk.faults_before disk.faults_now
HasStoreCause _ w disk = Unit {0}

-- that the disk failed is told, and where all is done the sink didn't fail
pub record TellsStoreFaults (status : Status) (w : SinkChange) (disk : DiskChange) : Type 0 where
  pub store : TellsDiskFault status disk.faults_before disk.faults_now
  pub sink : status ≡ Done → w.faults_now ≡ w.faults_before

-- the same where the disk may be opened so often again: then status 5 tells of as many faults, and one
abbrev pub HasServedCause : ℕ → Status → SinkChange → DiskChange → Type 0
HasServedCause restarts WriteFault w disk = Rose w.faults_before w.faults_now
HasServedCause restarts Disk w disk = RoseBy (suc restarts) disk.faults_before disk.faults_now
HasServedCause restarts _ w disk = Unit {0}

-- running these requests of this catalogue, over so many restarts at most: with the bodies that it has to be installed, and with those that
-- the store names
pub record ServesTo {D : Type 0} (kind : DiskKind D) (mode : Mode) (every : Option ℕ) (limit restarts : ℕ) (printing : Printing) (catalog : Catalog)
    (requests : List Request) (status : Status) (w : SinkChange) (old new : D) : Type 0 where
  pub stored : Catalog
  pub grows : GrowsTo catalog stored
  pub came : ComesOver kind mode every limit restarts printing stored requests status w old new
  pub cause : HasServedCause restarts status w (disk_of kind old new)
  -- a fault that isn't told is one behind which the disk was opened again
  pub told : restarts ≡ 0 → TellsStoreFaults status w (disk_of kind old new)
  pub sink : status ≡ Done → w.faults_now ≡ w.faults_before

-- running these requests of this catalogue
pub record ComesTo (mode : Mode) (every : Option ℕ) (limit : ℕ) (printing : Printing) (catalog : Catalog) (requests : List Request) (status : Status)
    (w : SinkChange) (disk : DiskChange) : Type 0 where
  pub came : CameTo mode every limit printing catalog requests status w disk
  pub cause : HasStoreCause status w disk

-- a recovery
pub record RecoversTo (mode : Mode) (limit : ℕ) (status : Status) (w : SinkChange) (disk : DiskChange) : Type 0 where
  pub came : RecoveredTo mode limit status w disk
  pub cause : HasStoreCause status w disk

-- a show
pub record ComesToShow {D : Type 0} (kind : DiskKind D) (mode : Mode) (every : Option ℕ) (limit restarts : ℕ) (show : Show) (status : Status) (w : SinkChange)
    (old new : D) : Type 0 where
  pub came : ShowEnds kind mode every limit restarts show status w old new
  pub cause : HasServedCause restarts status w (disk_of kind old new)
  pub told : restarts ≡ 0 → TellsStoreFaults status w (disk_of kind old new)
  pub sink : status ≡ Done → w.faults_now ≡ w.faults_before

-- the store was opened on this disk, or made on it, in this mode; a strong one was opened too as one of each catalogue with more bodies
pub record IsOpenedFor {D : Type 0} (kind : DiskKind D) (mode : Mode) (old : D) (r : Recovered D) : Type 0 where
  pub opened : Opened (recovery_of kind mode r) r.catalog (recovered_database r) r.first (disk_of kind old r.log.disk)
  pub was : WasOf mode r.catalog (disk_of kind old r.log.disk)
  pub each : mode ≡ modes.Strong → (more : Catalog) → GrowsTo r.catalog more → Opened Strong more (recovered_database r) r.first (disk_of kind old r.log.disk)
  pub each_was : mode ≡ modes.Strong → (more : Catalog) → GrowsTo r.catalog more → WasOf modes.Strong more (disk_of kind old r.log.disk)
