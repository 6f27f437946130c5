-- What a run has come to over its incarnations is a run.
use Rattle.std.proofs.Common.{◌≡◌, ℕ, ◌+◌, ◌≤◌, List, ◌∷◌, length, Option, sym, subst}
use Rattle.ss_model.specs.declared.catalog.Catalog.{Catalog}
use Rattle.ss_model.specs.declared.entry.Request.{Request}
use Rattle.ss_model.specs.declared.entry.Listed.{Listed}
use Rattle.ss_model.specs.Database.{Database}
use Rattle.ss_model.specs.Recovery.{Strong}
use Rattle.ss_model.specs.Report.{Whole, report_text}
use Rattle.ss_model.specs.Settling.{KeptCarries, kept}
use Rattle.ss_report_laws.specs.Replies.{weave, AnswersMakeReport}
use Rattle.ss_disk.specs.Kinds.{DiskKind, present}
use Rattle.ss_standing.specs.Laws.{StandsForOne}
use Rattle.ss_standing.specs.Standing.{StandsForFront}
use Rattle.ss_headline.specs.Disks.{DiskChange, disk_of}
use Rattle.ss_headline.specs.Runs.{LogEndsAsStopped}
use Rattle.ss_headline.specs.Sentences.{EveryReceiptStands, AllStands}
use Rattle.ss_headline.proofs.CallerLemmas.{answered_since, drained_carried, failed_since, front_carried, replies_carried}
use Rattle.ss_incarnations.specs.Incarnations.{Incarnation, AreIncarnations}
use Rattle.ss_incarnations.specs.Runs.{EndsWithOwn, list_before, WholeSessionOver, StoppedSessionOver, stop_over, RunsOverHoldFromEach, RunsOverRestarts}
use Rattle.ss_incarnations.proofs.Fronts.{fronts_carried}

module _ {D : Type 0} (kind : DiskKind D) (carries : KeptCarries) where
  abbrev change : D → D → DiskChange
  change = disk_of kind

  -- ---- from each database of which the same is kept

  module _ (catalog : Catalog) (x y : Database) (same : kept catalog x ≡ kept catalog y) (first : ℕ) (last : Incarnation) (earlier : List Incarnation) (old new : D) where
    incarnations_carried : AreIncarnations kind catalog x first (last ∷ earlier) old new → AreIncarnations kind catalog y first (last ∷ earlier) old new
    incarnations_carried are = record {
      begin = are.begin;
      each_goes_on = are.each_goes_on;
      wherever_a_crash_falls = fronts_carried carries catalog x y same first (present kind old) (kind.images new) (kind.moment new) (last ∷ earlier) are.wherever_a_crash_falls;
    }

    whole_carried : (requests : List Request) (text : List ℕ) → WholeSessionOver kind catalog requests first last earlier text old new x → WholeSessionOver kind catalog requests first last earlier text old new y
    whole_carried requests text s = record {
      replies_and_tables = replies_carried carries catalog x y same requests first last.list Whole text s.replies_and_tables;
      in_order = (carries catalog x y same last.list).orders s.in_order;
      wherever_a_crash_falls = λ true'. incarnations_carried (s.wherever_a_crash_falls true');
      receipts_stay = s.receipts_stay;
      all_stands = λ true' image left. front_carried carries catalog x y same Strong first last.list (first + length last.list) image (s.all_stands true' image left);
      at_the_end = drained_carried carries catalog x y same last.list s.at_the_end;
    }

    stopped_carried : (requests : List Request) (limit status : ℕ) (text : List ℕ) → StoppedSessionOver kind catalog requests limit first last earlier status text old new x
        → StoppedSessionOver kind catalog requests limit first last earlier status text old new y
    stopped_carried requests limit status text s = record {
      replies = replies_carried carries catalog x y same requests first last.list (stop_over kind status limit first last old new) text s.replies;
      in_order = (carries catalog x y same last.list).orders s.in_order;
      wherever_a_crash_falls = λ true'. incarnations_carried (s.wherever_a_crash_falls true');
      receipts_stay = s.receipts_stay;
      every_receipt_stands = record {
        from_first = s.every_receipt_stands.from_first;
        within = s.every_receipt_stands.within;
        fronts = λ true' image left. front_carried carries catalog x y same Strong first last.list last.receipted image (s.every_receipt_stands.fronts true' image left);
        few_behind = s.every_receipt_stands.few_behind;
      };
    }

  -- ---- runs

  -- where all of the list is receipted all of it stands
  all_stand : (catalog : Catalog) (db : Database) (first : ℕ) (last : Incarnation) (old new : D) → last.receipted ≡ first + length last.list
      → EveryReceiptStands Strong catalog db first last.list last.receipted (change old new) → AllStands Strong catalog db first last.list (change old new)
  all_stand catalog db first last old new all receipts true' image left =
      subst (λ n. StandsForFront catalog db first last.list n image) all (receipts.fronts true' image left)

  -- a log that ended so since a later disk has done so since an earlier one
  own_since : (every : Option ℕ) (status first : ℕ) (last : Incarnation) (list : List Listed) (old before new : D) → kind.faults old ≤ kind.faults before
      → EndsWithOwn first last.list list (λ place own. LogEndsAsStopped Strong every status place own last.receipted (change before new))
      → EndsWithOwn first last.list list (λ place own. LogEndsAsStopped Strong every status place own last.receipted (change old new))
  own_since every status first last list old before new le ends = record {
    stayed = ends.stayed;
    within = ends.within;
    own = ends.own;
    parts = ends.parts;
    says = failed_since kind Strong every status (first + ends.stayed) ends.own last.receipted old before new le ends.says;
  }

  pub runs_over_restarts : AnswersMakeReport → RunsOverRestarts kind
  runs_over_restarts makes = record {
    whole = λ every limit catalog requests db first last earlier missing answers old new lived all at_end logged answered within.
        let text = report_text catalog requests (weave missing requests answers) first last.list db Whole in
        let session : WholeSessionOver kind catalog requests first last earlier text old new db = record {
          replies_and_tables = record { one_by_one = lived.one_by_one; report = makes catalog requests db first last.list Whole missing answers answered };
          in_order = lived.in_order;
          wherever_a_crash_falls = lived.wherever_a_crash_falls;
          receipts_stay = lived.receipts_stay;
          all_stands = all_stand catalog db first last old new all lived.every_receipt_stands;
          at_the_end = at_end;
        } in record {
          within = within;
          logged = logged;
          session = record { whole = lived.whole; began = λ t. tt; stood = lived.stood; each = λ x same. whole_carried catalog db x (sym same) first last earlier old new requests text session };
        };
    stopped = λ every limit catalog requests db first last earlier status missing answers old before new le lived logged answered within.
        let end = stop_over kind status limit first last old new in
        let text = report_text catalog requests (weave missing requests answers) first last.list db end in
        let since = answered_since _ (kind.faults old) le requests first last.list answers answered in
        let session : StoppedSessionOver kind catalog requests limit first last earlier status text old new db = record {
          replies = record { one_by_one = lived.one_by_one; report = makes catalog requests db first last.list end missing answers since };
          in_order = lived.in_order;
          wherever_a_crash_falls = lived.wherever_a_crash_falls;
          receipts_stay = lived.receipts_stay;
          every_receipt_stands = lived.every_receipt_stands;
        } in record {
          within = within;
          logged = own_since every status first last (list_before earlier) old before new le logged;
          session = record { whole = lived.whole; began = λ t. tt; stood = lived.stood; each = λ x same. stopped_carried catalog db x (sym same) first last earlier old new requests limit status text session };
        };
  }

-- what each database that the disk stood for has in common, a session has
pub runs_over_hold_from_each : {D : Type 0} (kind : DiskKind D) → StandsForOne → RunsOverHoldFromEach kind
runs_over_hold_from_each kind one = record {
  whole = λ every limit catalog requests opening first last earlier text old new run told place db stands.
      let same = one catalog (kind.seen old) place first (kept catalog db) (kept catalog opening) stands (run.session.stood told) in (same.0, run.session.each db same.1);
  stopped = λ every limit catalog requests opening first last earlier status text old new run told place db stands.
      let same = one catalog (kind.seen old) place first (kept catalog db) (kept catalog opening) stands (run.session.stood told) in (same.0, run.session.each db same.1);
}
