-- What each opening of a disk, with the engine on it, has come to, and where a run goes on behind a fault.
use Rattle.std.specs.Prelude.{◌≡◌, ◌≢◌, ◌+◌, ◌-◌, ◌^◌, ◌≤◌, ◌⊎◌, ℕ, zero, suc, Bool, true, false, List, drop, length, map, Option, Some, None, IfSome}
use Rattle.ss_model.specs.declared.catalog.Catalog.{Catalog}
use Rattle.ss_model.specs.declared.entry.Mode.{Mode}
use Rattle.ss_model.specs.declared.entry.Mode.TheVariants as modes
use Rattle.ss_model.specs.declared.entry.Request.{Request}
use Rattle.ss_model.specs.Database.{Database}
use Rattle.ss_model.specs.Recovery.{Recovery, Strong}
use Rattle.ss_report_laws.specs.Replies.{AreAnswered, answers_of, requests_of}
use Rattle.ss_report_laws.specs.Resuming.{NoneBehindStop, resume_at}
use Rattle.ss_disk.specs.Files.{Files}
use Rattle.ss_disk.specs.Kinds.{DiskKind}
use Rattle.ss_cmdlog.specs.declared.log.CmdLog.{CmdLog}
use Rattle.ss_cmdlog.specs.Store.{IsEmpty}
use Rattle.ss_snapshot.specs.Bodies.{GrowsTo}
use Rattle.ss_headline.specs.Disks.{DiskChange, disk_of}
use Rattle.ss_headline.specs.Layers.{Opened}
use Rattle.ss_headline.specs.Sentences.{room_from}
use Rattle.ss_incarnations.specs.Incarnations.{Incarnation}
use Rattle.ss_incarnations.specs.Openings.{NotOpened}
use Rattle.ss_incarnations.specs.Reopening.{Lived}
use Rattle.ss_incarnations.specs.Runs.{stop_over}
use Rattle.ss_engine.specs.declared.session.run.Finished.{Finished}
use Rattle.ss_engine.specs.Sessions.{Beginning, EndsOnDisk}
use Rattle.ss_recover.specs.declared.error.RecoverError.{RecoverError}
use Rattle.ss_recover.specs.declared.error.RecoverError.TheVariants as recovery
use Rattle.ss_recover.specs.declared.recovered.Recovered.{Recovered}
use Rattle.ss_recover.specs.Faults.{IsStore}
use Rattle.ss_recover.specs.Recovering.{GoesOn, IsOwnCatalog, recovered_database, recovery_of}
use Rattle.ss_resume.specs.declared.past.Past.{Past}
use Rattle.ss_refusals.specs.declared.status.Status.{Status}
use Rattle.ss_refusals.specs.declared.status.Status.TheVariants.{Done, Disk, NoMemory, OtherCatalog}
use Rattle.ss_refusals.specs.Sinks.{SinkChange}
use Rattle.ss_refusals.specs.StoreRefusals.{HasTexts, TellsRefusal}
use Rattle.ss_top.specs.declared.over.Begun.{Begun}
use Rattle.ss_top.specs.declared.over.Turn.{Turn}
use Rattle.ss_top.specs.declared.over.Turn.TheVariants.{Over, Short, Refused, Failed}
use Rattle.ss_top.specs.declared.session.Printing.{Printing}
use Rattle.ss_top.specs.Over.{CameAgain, MayRestart, RoseBy}
use Rattle.ss_top.specs.Runs.{ReportsPast, TellsDiskFault, TellsReport}
use Rattle.ss_top.specs.Serving.{HasServedCause, IsOpenedFor}
use Rattle.ss_top.specs.Stores.{CameTo, WasOf}

-- how a turn that is over is told, and the disk that it leaves
abbrev pub TellsTurn : {D : Type 0} → Turn D → Status → SinkChange → Type 0
TellsTurn (Over reported) ended w = TellsReport reported.status reported.text ended w
TellsTurn (Short disk) ended w = TellsReport NoMemory None ended w
TellsTurn (Refused error disk) ended w = TellsRefusal error ended w
TellsTurn (Failed begun disk) ended w = ⊥

abbrev pub disk_left : {D : Type 0} → Turn D → D
disk_left (Over reported) = reported.disk
disk_left (Short disk) = disk
disk_left (Refused error disk) = disk
disk_left (Failed begun disk) = disk

-- the files are empty, or a strong store of this catalogue
abbrev pub HoldsStrong : Catalog → Files → Type 0
HoldsStrong catalog files = IsEmpty files ⊎ IsStore modes.Strong files catalog

-- where a run may go on, each client has an answer to each of its requests, and places are small
pub record MayGoOn (requests : List Request) (past : Past) : Type 0 where
  pub told : (client : ℕ) → length (answers_of past.answers client) ≡ length (requests_of client requests)
  pub small : past.first + length past.list ≤ 2 ^ 60

-- behind an engine that ran, on a catalogue that has grown from this one
pub record MayGoOnFrom (catalog : Catalog) (requests : List Request) (begun : Begun) : Type 0 where
  pub on : MayGoOn requests begun.past
  pub grows : GrowsTo catalog begun.catalog

-- the catalogue that the next opening is given
abbrev pub catalog_for : Catalog → Option Begun → Catalog
catalog_for catalog None = catalog
catalog_for catalog (Some begun) = begun.catalog

module _ {D : Type 0} (kind : DiskKind D) (limit : ℕ) (catalog : Catalog) (requests : List Request) where
  abbrev change : D → D → DiskChange
  change = disk_of kind

  -- The past is that of these incarnations, of which the disk keeps what it has to, and its answers may stand in the report of a run that
  -- stopped because the disk has failed.
  pub record IsPast (again : ℕ) (old now : D) (past : Past) : Type 0 where
    pub db : Database
    pub was : WasOf modes.Strong catalog (change old now)
    pub last : Incarnation
    pub earlier : List Incarnation
    pub lived : Lived kind catalog db past.first last earlier old now
    pub list_is : past.list ≡ last.list
    pub receipted_is : past.receipted ≡ last.receipted
    pub few : suc (length earlier) ≤ again
    pub within : length past.list ≤ room_from limit past.first
    pub answered : AreAnswered requests past.first past.list (stop_over kind 5 limit past.first last old now) past.answers
    pub stops : (client : ℕ) → NoneBehindStop (answers_of past.answers client)

-- no store was opened, and where the disk holds now one of this catalogue it did at first
pub record NothingOpened {D : Type 0} (kind : DiskKind D) (catalog : Catalog) (old now : D) : Type 0 where
  pub not_opened : NotOpened catalog (disk_of kind old now)
  pub was : kind.honest → HoldsStrong catalog (kind.seen now) → HoldsStrong catalog (kind.seen old)

module _ {D : Type 0} (kind : DiskKind D) (limit : ℕ) (catalog : Catalog) (requests : List Request) where
  -- Where no engine has run no store was opened, whatever more bodies there are. Behind one that ran its past is that of each catalogue
  -- with more bodies than its own.
  abbrev pub CameSoFar : ℕ → D → D → Option Begun → Type 0
  CameSoFar again old now None = (more : Catalog) → GrowsTo catalog more → NothingOpened kind more old now
  CameSoFar again old now (Some begun) = (more : Catalog) → GrowsTo begun.catalog more → IsPast kind limit more requests again old now begun.past

  -- behind so many faults of the disk; behind none nothing has happened
  abbrev pub HasCome : ℕ → D → D → Option Begun → Type 0
  HasCome zero old now begun = (now ≡ old) × (begun ≡ None)
  HasCome (suc again) old now begun =
      (kind.faults old ≤ kind.faults now) × RoseBy (suc again) (kind.faults old) (kind.faults now) × (kind.honest → CameSoFar (suc again) old now begun)

-- behind so many faults of an old disk a store was opened behind this past, and the engine on it was closed
pub record ReopensFor {D : Type 0} (kind : DiskKind D) (every : Option ℕ) (limit : ℕ) (catalog : Catalog) (requests : List Request) (past : Past) (again : ℕ)
    (old mid : D) (from : Database) (place : ℕ) (log : CmdLog D) (finished : Finished D) : Type 0 where
  pub own : IsOwnCatalog catalog
  pub before : kind.faults old ≤ kind.faults mid
  pub rose : RoseBy (suc again) (kind.faults old) (kind.faults mid)
  pub past_is : kind.honest → (more : Catalog) → GrowsTo catalog more → IsPast kind limit more requests (suc again) old mid past
  pub later : kind.faults mid ≤ kind.faults log.disk
  pub opened : kind.honest → (more : Catalog) → GrowsTo catalog more → Opened Strong more from place (disk_of kind mid log.disk)
  pub clients : ℕ
  pub closed : EndsOnDisk kind Strong every catalog from place (room_from (limit - (place - past.first)) place) clients requests
      (map (resume_at place) past.answers) log finished

module _ {D : Type 0} (kind : DiskKind D) (mode : Mode) (every : Option ℕ) (limit : ℕ) (printing : Printing) (catalog : Catalog) (requests : List Request) where
  -- a run whose disk was opened so often again and that ended with this status has come to this
  abbrev pub CameAt : ℕ → Status → SinkChange → D → D → Type 0
  CameAt zero status w old new = CameTo mode every limit printing catalog requests status w (disk_of kind old new)
  CameAt (suc again) status w old new = CameAgain kind every limit (suc again) printing catalog requests status w old new

  -- and status 5 tells of one fault more, at the last opening alone; one of the sink tells that it has failed
  pub record Comes (again : ℕ) (last : Bool) (status : Status) (w : SinkChange) (old new : D) : Type 0 where
    pub came : CameAt again status w old new
    pub cause : HasServedCause again status w (disk_of kind old new)
    pub at_last : status ≡ Disk → last ≡ true
    pub told : again ≡ 0 → last ≡ true → TellsDiskFault status (kind.faults old) (kind.faults new)
    pub sink : status ≡ Done → w.faults_now ≡ w.faults_before
    pub later : kind.faults old ≤ kind.faults new

  -- what one more opening has come to: where it is over, however that is told
  abbrev pub TurnComes : ℕ → Bool → D → Turn D → Type 0
  TurnComes again last old (Failed begun new) = HasCome kind limit catalog requests (suc again) old new begun
  TurnComes again last old turn = (w : SinkChange) (ended : Status) → TellsTurn turn ended w → Comes again last ended w old (disk_left turn)

  -- ---- what is run on a store that was opened

  -- the first one that could be: of the disk as it was given, or, behind so many faults, of one that is honest, as a strong store
  pub record ServesNew (last : Bool) (r : Recovered D) (turn : Turn D) : Type 0 where
    pub once : (old : D) → IsOpenedFor kind mode old r → kind.faults r.log.disk ≡ kind.faults old → TurnComes zero last old turn
    pub later : mode ≡ modes.Strong → (again : ℕ) (old : D) → kind.faults old ≤ kind.faults r.log.disk →
        RoseBy (suc again) (kind.faults old) (kind.faults r.log.disk) → (kind.honest → IsOpenedFor kind modes.Strong old r) →
        TurnComes (suc again) last old turn

  -- one that was opened behind an engine that ran, as a strong store
  abbrev pub ServesAgain : Bool → Past → D → Recovered D → Turn D → Type 0
  ServesAgain last past mid r turn =
      (again : ℕ) (old : D) → kind.faults old ≤ kind.faults mid → RoseBy (suc again) (kind.faults old) (kind.faults mid) →
      (kind.honest → (more : Catalog) → GrowsTo catalog more → IsPast kind limit more requests (suc again) old mid past) →
      kind.faults mid ≤ kind.faults r.log.disk →
      (kind.honest → (more : Catalog) → GrowsTo catalog more → Opened Strong more (recovered_database r) r.first (disk_of kind mid r.log.disk)) →
      TurnComes (suc again) last old turn

  -- one whose engine was closed
  abbrev pub ClosesAgain : Bool → Past → ℕ → Finished D → Turn D → Type 0
  ClosesAgain last past place finished turn =
      (again : ℕ) (old mid : D) (from : Database) (log : CmdLog D) → ReopensFor kind every limit catalog requests past again old mid from place log finished →
      TurnComes (suc again) last old turn

-- whichever catalogue, limit and checkpoints it was opened for
abbrev pub ClosesEach : {D : Type 0} → DiskKind D → Printing → List Request → Bool → Past → ℕ → Finished D → Turn D → Type 0
ClosesEach kind printing requests last past place finished turn =
    (every : Option ℕ) (limit : ℕ) (catalog : Catalog) → ClosesAgain kind modes.Strong every limit printing catalog requests last past place finished turn

module _ {D : Type 0} (kind : DiskKind D) (mode : Mode) (every : Option ℕ) (limit : ℕ) (printing : Printing) (catalog : Catalog) (requests : List Request) where
  -- a run of this catalogue has come to this with the bodies that were found too
  pub record ComesWith (again : ℕ) (last : Bool) (status : Status) (w : SinkChange) (old new : D) : Type 0 where
    pub stored : Catalog
    pub grows : GrowsTo catalog stored
    pub comes : Comes kind mode every limit printing stored requests again last status w old new

  -- what one more opening has come to, with the bodies that were found
  abbrev pub TurnComesWith : ℕ → Bool → D → Turn D → Type 0
  TurnComesWith again last old (Failed begun new) = HasCome kind limit catalog requests (suc again) old new begun
  TurnComesWith again last old turn = (w : SinkChange) (ended : Status) → TellsTurn turn ended w → ComesWith again last ended w old (disk_left turn)

  -- of this disk, whatever has come before
  abbrev pub ComesFrom : Bool → D → Option Begun → Turn D → Type 0
  ComesFrom last disk begun turn =
      (again : ℕ) (old : D) → MayRestart mode again → HasCome kind limit catalog requests again old disk begun → TurnComesWith again last old turn

-- what was recovered goes on in some mode, and where this opening isn't the last one, as a strong store
abbrev pub GoesOnOnce : {D : Type 0} → DiskKind D → ℕ → Bool → Recovered D → Type 0
GoesOnOnce kind parts last r = (mode : Mode) × GoesOn kind mode parts r (recovered_database r) × ((last ≡ true) ⊎ (mode ≡ modes.Strong))

-- what the first opening has come to, in the mode in which it goes on
abbrev pub ServesFirst : {D : Type 0} → DiskKind D → ℕ → Option ℕ → ℕ → Printing → List Request → Bool → Recovered D → Turn D → Type 0
ServesFirst kind parts every limit printing requests last r turn =
    (mode : Mode) → GoesOn kind mode parts r (recovered_database r) → ServesNew kind mode every limit printing r.catalog requests last r turn

-- what was recovered goes on at this database, whichever mode the store is of, and the store is had again so
pub record GoesOnWith {D : Type 0} (kind : DiskKind D) (parts : ℕ) (r : Recovered D) (begins : Beginning) : Type 0 where
  pub mode : Mode
  pub goes_on : GoesOn kind mode parts r begins.db
  pub had_again : recovery_of kind mode r ≡ begins.recovery

-- a session ran these requests, of each client from its first one here on, on what was opened
abbrev pub RanFrom : {D : Type 0} → DiskKind D → Recovery → Option ℕ → ℕ → Catalog → Database → ℕ → List Request → List ℕ → CmdLog D → Finished D → Type 0
RanFrom kind recovery every limit catalog db first requests starts log finished =
    (clients : ℕ) × EndsOnDisk kind recovery every catalog db first (room_from limit first) clients requests starts log finished

-- each client has an answer to each request that it made behind a past
abbrev pub ToldFrom : {D : Type 0} → ℕ → Past → List Request → Finished D → Type 0
ToldFrom place past requests finished =
    (client : ℕ) → length (answers_of finished.closed.answers client) ≡ length (drop (resume_at place (answers_of past.answers client)) (requests_of client requests))

-- a turn is not one to go on from
abbrev pub IsOver : {D : Type 0} → Turn D → Type 0
IsOver (Failed begun disk) = ⊥
IsOver _ = Unit {0}

-- what a turn leaves to the next one may go on
abbrev pub LeavesToGoOn : {D : Type 0} → Catalog → List Request → Turn D → Type 0
LeavesToGoOn catalog requests (Failed begun disk) = IfSome begun (MayGoOnFrom catalog requests)
LeavesToGoOn catalog requests _ = Unit {0}

-- what was served was not refused, its report is not that of another catalogue, and where its disk has failed an engine ran
abbrev pub HasServed : {D : Type 0} → Turn D → Type 0
HasServed (Over reported) = reported.status ≢ OtherCatalog
HasServed (Refused error disk) = ⊥
HasServed (Failed None disk) = ⊥
HasServed _ = Unit {0}

-- the texts that a refusal tells are UTF-8
abbrev pub HasTurnTexts : {D : Type 0} → Turn D → Type 0
HasTurnTexts (Refused error disk) = HasTexts error
HasTurnTexts _ = Unit {0}

-- a session whose disk has failed is left as it is
abbrev pub LeavesPast : {D : Type 0} → Finished D → ℕ → Turn D → Type 0
LeavesPast finished first turn = turn ≡ Failed (Some (record {
  past = record { list = finished.closed.list; first = first; answers = finished.closed.answers; receipted = finished.receipted };
  catalog = finished.closed.catalog;
})) finished.log.disk

-- a run that is over has come to this, at one of its openings: at the last one alone with the disk's fault
pub record ComesAtLast {D : Type 0} (kind : DiskKind D) (mode : Mode) (every : Option ℕ) (limit restarts : ℕ) (printing : Printing) (catalog : Catalog)
    (requests : List Request) (old : D) (turn : Turn D) : Type 0 where
  pub again : ℕ
  pub within : again ≤ restarts
  pub may : MayRestart mode again
  pub last : Bool
  pub at_last : last ≡ true → again ≡ restarts
  pub not_before : again ≡ restarts → last ≡ true
  pub comes : TurnComesWith kind mode every limit printing catalog requests again last old turn
  pub over : IsOver turn

-- whether a refusal is for a fault of the disk
abbrev pub is_fault : RecoverError → Bool
is_fault recovery.DiskFault = true
is_fault _ = false

-- how a run ends whose store was not opened: without a past it is refused; with one, a fault of the disk is reported with the past, and else
-- there is no memory for more
abbrev pub LeavesUnopened : {D : Type 0} → Option Begun → List Request → RecoverError → D → Turn D → Type 0
LeavesUnopened None requests error disk turn = turn ≡ Refused error disk
LeavesUnopened (Some begun) requests recovery.DiskFault disk turn =
    (status : Status) × (text : Option (List ℕ)) × ReportsPast begun.catalog begun.past requests status text × (turn ≡ Over (record { status = status; text = text; disk = disk }))
LeavesUnopened (Some begun) requests error disk turn = turn ≡ Short disk
