-- Two runs on one disk go on from each other.
use Rattle.std.proofs.Common.{◌≡◌, ◌⊎◌, ◌∙◌, inl, inr, ℕ, ◌+◌, ◌≤◌, List, ◌++◌, length, take, Option, refl, sym, ap, subst, arith, append-nil, length-append, length-take-le}
use Rattle.ss_disk.specs.Kinds.{DiskKind, present}
use Rattle.std.proofs.Math.Seq.{take-append-add}
use Rattle.ss_model.specs.declared.catalog.Catalog.{Catalog}
use Rattle.ss_model.specs.declared.entry.Listed.{Listed}
use Rattle.ss_model.specs.declared.entry.Request.{Request}
use Rattle.ss_model.specs.Database.{Database}
use Rattle.ss_model.specs.Recovery.{Strong}
use Rattle.ss_model.specs.Replays.{Replays, ReplaysGoOn, after}
use Rattle.ss_model.specs.Settling.{Drained, KeptCarries, kept}
use Rattle.ss_disk.specs.Files.{Files}
use Rattle.ss_standing.specs.Standing.{Prefix, Stands, StandsForAll, StandsForAtLeast, StandsForFront}
use Rattle.ss_standing.specs.Laws.{StandsForOne}
use Rattle.ss_standing.proofs.CallerLemmas.{front_goes_on, front_replays}
use Rattle.ss_headline.specs.Disks.{DiskChange, disk_of, AlwaysLeaves, AtEachMoment}
use Rattle.ss_headline.specs.Between.{AreOneList, CallsGoOn, GoesOnBehindAll, GoesOnBehindFront, HadList}
use Rattle.ss_headline.specs.Runs.{IsStoppedRun, IsWholeRun}
use Rattle.ss_headline.proofs.Disks.{always_has, calls_join, less_at_each}
use Rattle.ss_headline.proofs.EachDatabase.{drained_carried, front_carried}
use Rattle.ss_headline.proofs.Sessions.{front_is_all}

-- ---- what an image stands for

-- a front stands for as many executions as its place says, at least
front_at_least : (catalog : Catalog) (db : Database) (first : ℕ) (list : List Listed) (least n : ℕ) (image : Files) → n ≤ least → StandsForFront catalog db first list least image → StandsForAtLeast catalog n image
front_at_least catalog db first list least n image le f =
    record { count = first + f.some; k = kept catalog (after catalog db (take f.some list)); stands = f.stands; enough = omega (arith, le, f.enough) }

-- all of a list is a prefix of what goes on behind it
all_is_front : (catalog : Catalog) (db : Database) (first : ℕ) (one two : List Listed) (image : Files) → StandsForAll catalog db first one image → Prefix catalog db first (one ++ two) image
all_is_front catalog db first one two image all =
    let whole : take (length one + 0) (one ++ two) ≡ one ++ take 0 two = take-append-add one two 0 in
    let same : take (length one) (one ++ two) ≡ one = ap (λ n. take n (one ++ two)) (omega arith) ∙ whole ∙ append-nil one in
    record {
      some = length one;
      within = omega (arith, length-append one two);
      enough = omega arith;
      stands = subst (λ (l : List Listed). Stands catalog image (first + length one) (kept catalog (after catalog db l))) (sym same) all;
    }

module _ (goes_on : ReplaysGoOn) (carries : KeptCarries) (one_thing : StandsForOne) (catalog : Catalog) where
  -- a prefix of what goes on behind a list is one of both
  behind_is_front : (a : Database) (m : ℕ) (one two : List Listed) (image : Files) → Prefix catalog (after catalog a one) (m + length one) two image → Prefix catalog a m (one ++ two) image
  behind_is_front a m one two image f =
      let whole : take (length one + f.some) (one ++ two) ≡ one ++ take f.some two = take-append-add one two f.some in
      let ends : after catalog (after catalog a one) (take f.some two) ≡ after catalog a (take (length one + f.some) (one ++ two)) = sym (goes_on catalog a one (take f.some two)).ends ∙ ap (after catalog a) (sym whole) in
      let place : m + length one + f.some ≡ m + (length one + f.some) = omega arith in record {
        some = length one + f.some;
        within = omega (arith, f.within, length-append one two);
        enough = omega arith;
        stands = subst (λ (n : ℕ). Stands catalog image n (kept catalog (after catalog a (take (length one + f.some) (one ++ two))))) place
            (subst (λ (d : Database). Stands catalog image (m + length one + f.some) (kept catalog d)) ends f.stands);
      }

  -- where the second list is said of its own database and place
  moved : (a b : Database) (m n : ℕ) (one two : List Listed) → n ≡ m + length one → kept catalog b ≡ kept catalog (after catalog a one) → (image : Files) → Prefix catalog b n two image → Prefix catalog a m (one ++ two) image
  moved a b m n one two place same image f =
      behind_is_front a m one two image
      (subst (λ (at : ℕ). Prefix catalog (after catalog a one) at two image) place (front_carried carries catalog b (after catalog a one) same Strong n two n image f))

  module _ {D : Type 0} (kind : DiskKind D) (told : kind.honest → kind.tells)
      (sees : (disk : D) → kind.honest → kind.images disk (kind.moment disk) (kind.seen disk)) where
    abbrev change : D → D → DiskChange
    change = disk_of kind

    -- what is needed of the second run
    record Goes (b : Database) (n : ℕ) (two : List Listed) (mid new : D) : Type 0 where
      stood : kind.tells → Stands catalog (kind.seen mid) n (kept catalog b)
      replays : Replays catalog b two
      crashes : AtEachMoment (change mid new) (Prefix catalog b n two)

    goes_of : (every : Option ℕ) (limit : ℕ) (requests : List Request) (b : Database) (n : ℕ) (two : List Listed) (mid new : D) → HadList every limit catalog requests b n two (change mid new) → Goes b n two mid new
    goes_of every limit requests b n two mid new (inl (text, run)) =
        let session = run.session.each b refl in record { stood = run.session.stood; replays = session.replies_and_tables.one_by_one; crashes = session.wherever_a_crash_falls }
    goes_of every limit requests b n two mid new (inr (status, count, text, run)) =
        let session = run.session.each b refl in record { stood = run.session.stood; replays = session.replies.one_by_one; crashes = session.wherever_a_crash_falls }

    -- behind what a read gave between the two
    one_list : (true' : kind.honest) (a b : Database) (m n : ℕ) (one two : List Listed) (mid new : D) → Replays catalog a one → Stands catalog (kind.seen mid) (m + length one) (kept catalog (after catalog a one)) → Goes b n two mid new
        → AreOneList catalog a b m n one two
    one_list true' a b m n one two mid new replays stands second =
        let same = one_thing catalog (kind.seen mid) n (m + length one) (kept catalog b) (kept catalog (after catalog a one)) (second.stood (told true')) stands in
        let joined = goes_on catalog a one two in record {
          place = same.0;
          same = same.1;
          replays = joined.joins replays ((carries catalog b (after catalog a one) same.1 two).replays second.replays);
          drained = λ drained. subst (Drained catalog) (sym joined.ends) (drained_carried carries catalog b (after catalog a one) same.1 two drained);
        }

    -- what stood before the second call, and what it leaves, stands through it
    stays : (least : ℕ) (b : Database) (n : ℕ) (two : List Listed) (mid new : D) → least ≤ n → (kind.honest → (image : Files) → present kind mid image → StandsForAtLeast catalog least image) → Goes b n two mid new
        → AlwaysLeaves (change mid new) (StandsForAtLeast catalog least)
    stays least b n two mid new le before second =
        always_has kind (StandsForAtLeast catalog least) mid new before
        (less_at_each kind (Prefix catalog b n two) (StandsForAtLeast catalog least) mid new (λ image f. front_at_least catalog b n two n least image le f) second.crashes)

    -- ---- behind a whole run

    behind_all : (every each : Option ℕ) (limit : ℕ) (requests others : List Request) (a b : Database) (m n : ℕ) (one two : List Listed) (text : List ℕ) (old mid new : D) → kind.honest → IsWholeRun Strong every limit catalog requests a m one text (change old mid)
        → HadList each limit catalog others b n two (change mid new) → GoesOnBehindAll change catalog a b m n one two old mid new
    behind_all every each limit requests others a b m n one two text old mid new true' first had =
        let session = first.session.each a refl in
        let second = goes_of each limit others b n two mid new had in
        let lists = one_list true' a b m n one two mid new session.replies_and_tables.one_by_one (all_of (session.all_stands true' (kind.seen mid) (sees mid true'))) second in
        let list = one ++ two in
        let before = less_at_each kind (Prefix catalog a m one) (Prefix catalog a m list) old mid (front_goes_on catalog a m one two) session.wherever_a_crash_falls in
        let behind = less_at_each kind (Prefix catalog b n two) (Prefix catalog a m list) mid new (moved a b m n one two lists.place lists.same) second.crashes in
        let least : m + length one ≤ n = omega (arith, lists.place) in record {
          lists = lists;
          crashes = calls_join kind (Prefix catalog a m list) old mid new before
              (always_has kind (Prefix catalog a m list) mid new (λ h image left. all_is_front catalog a m one two image (all_of (session.all_stands h image left))) behind);
          stays = stays (m + length one) b n two mid new least
              (λ h image left. front_at_least catalog a m one (m + length one) (m + length one) image (omega arith) (session.all_stands h image left)) second;
        }
      where
        all_of : {image : Files} → StandsForFront catalog a m one (m + length one) image → StandsForAll catalog a m one image
        all_of {image} f = front_is_all catalog a m one image f

    -- ---- behind a run that stopped

    behind_front : (every each : Option ℕ) (limit : ℕ) (requests others : List Request) (a b : Database) (m n : ℕ) (one two : List Listed) (status count : ℕ) (text : List ℕ) (old mid new : D) → kind.honest
        → IsStoppedRun Strong every limit catalog requests a m one status count text (change old mid) → HadList each limit catalog others b n two (change mid new) → GoesOnBehindFront change catalog a b m n one two count old mid new
    behind_front every each limit requests others a b m n one two status count text old mid new true' first had =
        let session = first.session.each a refl in
        let receipts = session.every_receipt_stands in
        let second = goes_of each limit others b n two mid new had in
        let front = receipts.fronts true' (kind.seen mid) (sees mid true') in
        let part = take front.some one in
        let many : m + front.some ≡ m + length part = omega (arith, length-take-le front.some one front.within) in
        let stands = subst (λ (at : ℕ). Stands catalog (kind.seen mid) at (kept catalog (after catalog a part))) many front.stands in
        let lists = one_list true' a b m n part two mid new (front_replays goes_on catalog a one front.some session.replies.one_by_one) stands second in
        let left : Files → Type 0 = λ image. Prefix catalog a m one image ⊎ Prefix catalog a m (part ++ two) image in
        let before = less_at_each kind (Prefix catalog a m one) left old mid (λ image p. inl p) session.wherever_a_crash_falls in
        let behind = less_at_each kind (Prefix catalog b n two) left mid new (λ image p. inr (moved a b m n part two lists.place lists.same image p)) second.crashes in
        let least : count ≤ n = omega (arith, front.enough, many, lists.place) in record {
          some = front.some;
          within = front.within;
          enough = front.enough;
          lists = lists;
          crashes = calls_join kind left old mid new before
              (always_has kind left mid new (λ h image stays'. inl (as_prefix (receipts.fronts h image stays'))) behind);
          stays = stays count b n two mid new least (λ h image left'. front_at_least catalog a m one count count image (omega arith) (receipts.fronts h image left')) second;
        }
      where
        as_prefix : {image : Files} → StandsForFront catalog a m one count image → Prefix catalog a m one image
        as_prefix f = record { some = f.some; within = f.within; enough = omega arith; stands = f.stands }

pub calls_go_on : ReplaysGoOn → KeptCarries → StandsForOne → {D : Type 0} (kind : DiskKind D) → (kind.honest → kind.tells)
    → ((disk : D) → kind.honest → kind.images disk (kind.moment disk) (kind.seen disk)) → CallsGoOn (disk_of kind)
calls_go_on goes_on carries one kind told sees = record {
  whole = λ every each limit catalog requests others a b m n first second text old mid new true' ran had.
      behind_all goes_on carries one catalog kind told sees every each limit requests others a b m n first second text old mid new true' ran had;
  stopped = λ every each limit catalog requests others a b m n first second status count text old mid new true' ran had.
      behind_front goes_on carries one catalog kind told sees every each limit requests others a b m n first second status count text old mid new true' ran had;
}
