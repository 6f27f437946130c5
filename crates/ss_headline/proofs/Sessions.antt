-- The sentences come together.
use Rattle.std.proofs.Common.{◌≡◌, ℕ, ◌+◌, List, length, take, subst, arith, take_all}
use Rattle.ss_disk.specs.Kinds.{DiskKind}
use Rattle.ss_model.specs.declared.catalog.Catalog.{Catalog}
use Rattle.ss_model.specs.declared.entry.Listed.{Listed}
use Rattle.ss_model.specs.Database.{Database}
use Rattle.ss_model.specs.Replays.{after}
use Rattle.ss_model.specs.Settling.{kept}
use Rattle.ss_disk.specs.Files.{Files}
use Rattle.ss_standing.specs.Standing.{Stands, StandsForAll, StandsForFront}
use Rattle.ss_headline.specs.Disks.{DiskChange, disk_of}
use Rattle.ss_headline.specs.Laws.{FewStandBehind, WholeSessions, StoppedSessions}
use Rattle.ss_headline.proofs.Untouched.{crashes_join, receipts_join}

-- a front that ends at the end is all
pub front_is_all : (catalog : Catalog) (db : Database) (first : ℕ) (list : List Listed) (image : Files) → StandsForFront catalog db first list (first + length list) image → StandsForAll catalog db first list image
front_is_all catalog db first list image f =
    let some_is : f.some ≡ length list = omega (arith, f.within, f.enough) in
    let whole : take f.some list ≡ list = take_all f.some list (omega (arith, some_is)) in
    subst (λ (l : List Listed). Stands catalog image (first + length list) (kept catalog (after catalog db l))) whole
    (subst (λ (m : ℕ). Stands catalog image (first + m) (kept catalog (after catalog db (take f.some list)))) some_is f.stands)

module _ {D : Type 0} (kind : DiskKind D) where
  abbrev change : D → D → DiskChange
  change = disk_of kind

  pub whole_sessions : WholeSessions change
  whole_sessions = λ recovery every catalog requests db first list text old mid new opened closed settled report. record {
    replies_and_tables = record { one_by_one = closed.replays; report = report };
    in_order = closed.orders;
    wherever_a_crash_falls = crashes_join kind recovery catalog db first list old mid new opened closed;
    receipts_stay = receipts_join kind recovery catalog db first list old mid new opened closed;
    all_stands = settled.receipt;
    at_the_end = settled.drained;
  }

  pub stopped_sessions : FewStandBehind → StoppedSessions change
  stopped_sessions few = λ recovery catalog requests limit db first list status count text old mid new opened closed receipted report. record {
    replies = record { one_by_one = closed.replays; report = report };
    in_order = closed.orders;
    wherever_a_crash_falls = crashes_join kind recovery catalog db first list old mid new opened closed;
    receipts_stay = receipts_join kind recovery catalog db first list old mid new opened closed;
    every_receipt_stands = record {
      from_first = receipted.from_first;
      within = receipted.within;
      fronts = receipted.receipt;
      few_behind = λ client. few client first list count receipted.from_first (receipted.few client);
    };
  }
