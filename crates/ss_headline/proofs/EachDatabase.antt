-- What is said of a session holds from each database of which the same is kept.
use Rattle.std.proofs.Common.{◌≡◌, ◌∙◌, ℕ, ◌+◌, List, [], ◌∷◌, ◌++◌, length, take, refl, sym, ap, subst, get_or}
use Rattle.ss_disk.specs.Kinds.{DiskKind}
use Rattle.ss_model.specs.declared.catalog.Catalog.{Catalog}
use Rattle.ss_model.specs.declared.entry.Listed.{Listed}
use Rattle.ss_model.specs.declared.entry.Request.{Request}
use Rattle.ss_model.specs.Database.{Database}
use Rattle.ss_model.specs.Recovery.{Recovery, Strong, Weak}
use Rattle.ss_model.specs.Replays.{after}
use Rattle.ss_model.specs.Report.{End, Whole, Stopped, end_lines, reply_lines}
use Rattle.ss_model.specs.ReportLines.{database_lines, done_line, list_lines, lines_text}
use Rattle.ss_model.specs.Settling.{Kept, kept, Drained, border_stream, KeptCarries}
use Rattle.ss_model_kept.proofs.CallerLemmas.{from_kept}
use Rattle.ss_disk.specs.Files.{Files}
use Rattle.ss_standing.specs.Standing.{Stands}
use Rattle.ss_fronts.specs.Fronts.{FrontStands}
use Rattle.ss_headline.specs.Disks.{DiskChange, disk_of}
use Rattle.ss_headline.specs.Sentences.{RepliesAndTables, WholeSession, StoppedSession, stop_at}
use Rattle.ss_headline.specs.Laws.{HoldsFromOther, SessionsHoldFromEach}
use Rattle.ss_headline.proofs.Disks.{less_at_each}

module _ (carries : KeptCarries) (catalog : Catalog) (x y : Database) (same : kept catalog x ≡ kept catalog y) where
  same_tables : (list : List Listed) → database_lines catalog (after catalog x list) ≡ database_lines catalog (after catalog y list)
  same_tables list =
      let tables = (from_kept catalog (after catalog x list) (after catalog y list) (carries catalog x y same list).after).contents.tables in
      λ i. database_lines catalog (record (after catalog x list) { contents = record (after catalog x list).contents { tables = tables i } })

  pub same_end : (list : List Listed) (end : End) → end_lines catalog x list end ≡ end_lines catalog y list end
  same_end list Whole = ap (λ ls. ls ++ done_line (length list) ∷ []) (same_tables list)
  same_end list (Stopped stop) = refl

  pub replies_carried : (requests : List Request) (first : ℕ) (list : List Listed) (end : End) (text : List ℕ) → RepliesAndTables catalog requests x first list end text
      → RepliesAndTables catalog requests y first list end text
  replies_carried requests first list end text r = record {
    one_by_one = (carries catalog x y same list).replays r.one_by_one;
    report = record {
      asked = r.report.asked;
      in_turn = r.report.in_turn;
      answers = r.report.answers;
      answered = r.report.answered;
      text = r.report.text ∙ ap (λ ls. lines_text (reply_lines catalog requests r.report.answers ++ list_lines catalog first list ++ ls)) (same_end list end);
    };
  }

  -- of a weak run a front doesn't speak of the database
  pub front_carried : (recovery : Recovery) (first : ℕ) (list : List Listed) (least : ℕ) (image : Files) → FrontStands recovery catalog x first list least image → FrontStands recovery catalog y first list least image
  front_carried (Weak o) first list least image f = f
  front_carried Strong first list least image f = record {
    some = f.some;
    within = f.within;
    enough = f.enough;
    stands = subst (λ (k : Kept). Stands catalog image (first + f.some) k) (carries catalog x y same (take f.some list)).after f.stands;
  }

  pub drained_carried : (list : List Listed) → Drained catalog (after catalog x list) → Drained catalog (after catalog y list)
  drained_carried list d = λ q streams.
      let alike = from_kept catalog (after catalog x list) (after catalog y list) (carries catalog x y same list).after in
      sym (ap (λ cs. get_or cs q 0) alike.counts) ∙ d q streams ∙ alike.lengths (border_stream catalog q)

  module _ {D : Type 0} (kind : DiskKind D) (recovery : Recovery) where
    abbrev change : D → D → DiskChange
    change = disk_of kind

    whole_carried : (requests : List Request) (first : ℕ) (list : List Listed) (text : List ℕ) (old new : D) → WholeSession recovery catalog requests first list text (change old new) x
        → WholeSession recovery catalog requests first list text (change old new) y
    whole_carried requests first list text old new s = record {
      replies_and_tables = replies_carried requests first list Whole text s.replies_and_tables;
      in_order = (carries catalog x y same list).orders s.in_order;
      wherever_a_crash_falls = less_at_each kind (FrontStands recovery catalog x first list first) (FrontStands recovery catalog y first list first) old new (front_carried recovery first list first) s.wherever_a_crash_falls;
      receipts_stay = s.receipts_stay;
      all_stands = λ true' image left. front_carried recovery first list (first + length list) image (s.all_stands true' image left);
      at_the_end = drained_carried list s.at_the_end;
    }

    stopped_carried : (requests : List Request) (limit first : ℕ) (list : List Listed) (status count : ℕ) (text : List ℕ) (old new : D)
        → StoppedSession recovery catalog requests limit first list status count text (change old new) x → StoppedSession recovery catalog requests limit first list status count text (change old new) y
    stopped_carried requests limit first list status count text old new s = record {
      replies = replies_carried requests first list (stop_at status count limit first list (kind.faults old) (kind.faults new)) text s.replies;
      in_order = (carries catalog x y same list).orders s.in_order;
      wherever_a_crash_falls = less_at_each kind (FrontStands recovery catalog x first list first) (FrontStands recovery catalog y first list first) old new (front_carried recovery first list first) s.wherever_a_crash_falls;
      receipts_stay = s.receipts_stay;
      every_receipt_stands = record {
        from_first = s.every_receipt_stands.from_first;
        within = s.every_receipt_stands.within;
        fronts = λ true' image left. front_carried recovery first list count image (s.every_receipt_stands.fronts true' image left);
        few_behind = s.every_receipt_stands.few_behind;
      };
    }

    pub holds_from_other : HoldsFromOther change recovery catalog x y
    holds_from_other = record { whole = whole_carried; stopped = stopped_carried }

pub sessions_hold_from_each : KeptCarries → {D : Type 0} (kind : DiskKind D)
    → SessionsHoldFromEach (disk_of kind)
sessions_hold_from_each carries kind = λ recovery catalog x y same. holds_from_other carries catalog x y same kind recovery
