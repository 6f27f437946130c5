-- What a weak recovery makes of what a crash leaves.
use Rattle.std.proofs.Common.{◌≡◌, ℕ, ◌+◌, List, ◌++◌, length, subst, arith, length-append}
use Rattle.ss_model.specs.declared.catalog.Catalog.{Catalog}
use Rattle.ss_model.specs.declared.entry.Listed.{Listed}
use Rattle.ss_model.specs.Accepted.{Accepted}
use Rattle.ss_model.specs.Asked.{asked_of, listed_entries}
use Rattle.ss_model.specs.Database.{Database}
use Rattle.ss_model.specs.Recovery.{Origin, Weak}
use Rattle.ss_model.specs.Replays.{Replays, ReplaysGoOn, after}
use Rattle.ss_model.specs.Settling.{KeptCarries, kept}
use Rattle.ss_disk.specs.Files.{Files}
use Rattle.ss_disk.specs.Kinds.{DiskKind}
use Rattle.ss_fronts.specs.Fronts.{FrontStands, LedTo, StoodAs}
use Rattle.ss_fronts.specs.WeakFronts.{ReadsWeakFront}
use Rattle.ss_fronts.specs.WeakLaws.{FrontsRecover, WeakFrontsFromEach}
use Rattle.ss_fronts.specs.WeakReads.{WeaklyStands}
use Rattle.ss_headline.specs.Disks.{disk_of}
use Rattle.ss_headline.specs.Recovering.{AllRecovers, CrashesHoldFromEach, CrashesRecover, RecoversAll, RecoversAsFront}
use Rattle.ss_headline.proofs.Disks.{less_at_each}

-- what a weak run began at, its files stand for
pub weakly_began : (catalog : Catalog) (o : Origin) (db : Database) (first : ℕ) (files : Files) → LedTo catalog o db first → StoodAs (Weak o) catalog db first files → WeaklyStands catalog files first (kept catalog db)
weakly_began catalog o db first files led stood = record {
  place = o.place;
  db = o.db;
  entries = asked_of (listed_entries o.known);
  reads = stood;
  list = o.known;
  is_weak = led.is_weak;
  replays = led.replays;
  count_is = led.placed;
  kept_is = led.reached;
}

module _ (goes_on : ReplaysGoOn) (carries : KeptCarries) (recover : FrontsRecover) where
  -- the history replays: what its beginning led to is kept as the run's database is
  history_replays : (catalog : Catalog) (o : Origin) (db : Database) (first : ℕ) (list : List Listed) → LedTo catalog o db first → Replays catalog db list → Replays catalog o.db (o.known ++ list)
  history_replays catalog o db first list led replays =
      (goes_on catalog o.db o.known list).joins led.replays ((carries catalog db (after catalog o.db o.known) led.reached list).replays replays)

  recovers : (catalog : Catalog) → Accepted catalog → (o : Origin) (db : Database) (first : ℕ) (list : List Listed) → LedTo catalog o db first → Replays catalog db list → (least : ℕ) (image : Files)
      → ReadsWeakFront catalog o.db o.place (o.known ++ list) least image → RecoversAsFront catalog o list least image
  recovers catalog accepted o db first list led replays least image f =
      record { front = f; recovers = recover catalog accepted o.db led.whole o.place (o.known ++ list) (history_replays catalog o db first list led replays) least image f }

  pub crashes_recover : {D : Type 0} (kind : DiskKind D) → CrashesRecover (disk_of kind)
  crashes_recover kind = λ catalog accepted o db first list least old new led replays crashes.
      less_at_each kind (FrontStands (Weak o) catalog db first list least) (RecoversAsFront catalog o list least) old new
      (recovers catalog accepted o db first list led replays least) crashes

  -- what ends at the history's end has all of it
  all_of : (catalog : Catalog) (o : Origin) (list : List Listed) (image : Files) → RecoversAsFront catalog o list (o.place + length (o.known ++ list)) image → RecoversAll catalog o list image
  all_of catalog o list image r = record { recovered = r; to_the_end = omega (arith, r.front.within, r.front.enough) }

  pub all_recovers : AllRecovers
  all_recovers catalog accepted o db first list image led replays f =
      let place : first + length list ≡ o.place + length (o.known ++ list) = omega (arith, led.placed, length-append o.known list) in
      let front = subst (λ (n : ℕ). ReadsWeakFront catalog o.db o.place (o.known ++ list) n image) place f in
      all_of catalog o list image (recovers catalog accepted o db first list led replays (o.place + length (o.known ++ list)) image front)

pub crashes_hold_from_each : WeakFrontsFromEach → {D : Type 0} (kind : DiskKind D) → CrashesHoldFromEach (disk_of kind)
crashes_hold_from_each from kind = λ catalog o x same db other first list least image f. from catalog o.db x same o.place (o.known ++ list) least image f
