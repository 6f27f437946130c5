-- A run goes on over the faults of its disk.
use Rattle.std.proofs.Common.{◌≡◌, ◌⊎◌, inl, inr, ℕ, ◌+◌, ◌≤◌, List, [], ◌++◌, length, take, refl, sym, ap, subst, ◌∙◌, arith, length-append, length-take-le}
use Rattle.ss_model.specs.declared.catalog.Catalog.{Catalog}
use Rattle.ss_model.specs.Database.{Database}
use Rattle.ss_model.specs.Orders.{ReplaysHaveOrders}
use Rattle.ss_model.specs.Recovery.{Strong}
use Rattle.ss_model.specs.Replays.{ReplaysGoOn, after}
use Rattle.ss_model.specs.Settling.{Drained, KeptCarries, kept}
use Rattle.ss_disk.specs.Files.{Files}
use Rattle.ss_disk.specs.Kinds.{DiskKind, present}
use Rattle.ss_disk.specs.Moments.{LeavesOnly}
use Rattle.ss_disk.proofs.CallerLemmas.{leaves_less, stays_join}
use Rattle.ss_standing.specs.Laws.{StandsForOne}
use Rattle.ss_standing.specs.Standing.{Prefix, Stands, StandsForAtLeast, StandsForFront}
use Rattle.ss_standing.proofs.CallerLemmas.{front_replays}
use Rattle.ss_headline.specs.Between.{AreOneList}
use Rattle.ss_headline.specs.Disks.{DiskChange, disk_of}
use Rattle.ss_headline.specs.Laws.{FewStandBehind}
use Rattle.ss_headline.specs.Layers.{Opened}
use Rattle.ss_headline.specs.Sentences.{ReceiptsStay}
use Rattle.ss_headline.proofs.CallerLemmas.{crashes_join, drained_carried, no_list_stands, receipts_join}
use Rattle.ss_incarnations.specs.Incarnations.{Incarnation}
use Rattle.ss_incarnations.specs.Openings.{StandForSame}
use Rattle.ss_incarnations.specs.Reopening.{Lived, FirstIncarnation, NoneIsReopened, NoEngineIsOpened, OneMoreIncarnation}
use Rattle.ss_incarnations.proofs.Few.{few_joined}
use Rattle.ss_incarnations.proofs.Openings.{stands_so}
use Rattle.ss_incarnations.proofs.Fronts.{behind_front, front_before, last_goes_on}

module _ {D : Type 0} (kind : DiskKind D) where
  abbrev change : D → D → DiskChange
  change = disk_of kind

  -- the front of the last list that has all that is receipted
  abbrev Front : Catalog → Database → ℕ → Incarnation → Files → Type 0
  Front catalog db first last = StandsForFront catalog db first last.list last.receipted

  -- what was left at a disk, or this anew
  abbrev Left : D → (Files → Type 0) → Files → Type 0
  Left mid P image = present kind mid image ⊎ P image

  pub first_incarnation : FewStandBehind → FirstIncarnation kind
  first_incarnation few = λ catalog db first list count old mid new opened closed receipted. record {
    whole = opened.whole;
    stood = opened.stood;
    one_by_one = closed.replays;
    in_order = closed.orders;
    wherever_a_crash_falls = λ true'.
        let run = crashes_join kind Strong catalog db first list old mid new opened closed true' in
        record { begin = refl; each_goes_on = tt; wherever_a_crash_falls = (run.later, run.each) };
    receipts_stay = receipts_join kind Strong catalog db first list old mid new opened closed;
    every_receipt_stands = record {
      from_first = receipted.from_first;
      within = receipted.within;
      fronts = receipted.receipt;
      few_behind = λ client. few client first list count receipted.from_first (receipted.few client);
    };
  }

  -- ---- no engine was closed

  -- where a crash leaves fronts of the last list alone, a run stays as it was
  stays_lived : (catalog : Catalog) (db : Database) (first : ℕ) (last : Incarnation) (earlier : List Incarnation) (old mid new : D) → Lived kind catalog db first last earlier old mid
      → (kind.honest → LeavesOnly kind.moment kind.images mid new (Front catalog db first last)) → ReceiptsStay Strong catalog last.list (change mid new) → Lived kind catalog db first last earlier old new
  stays_lived catalog db first last earlier old mid new lived further stays =
      let receipts = lived.every_receipt_stands in
      let now = λ (true' : kind.honest) (image : Files) (left : present kind new image). let run = further true' in run.each (kind.moment new) image run.later (omega arith) left in record {
        whole = lived.whole;
        stood = lived.stood;
        one_by_one = lived.one_by_one;
        in_order = lived.in_order;
        wherever_a_crash_falls = λ true'.
            let run = further true' in
            let so_far = lived.wherever_a_crash_falls true' in record {
              begin = so_far.begin;
              each_goes_on = so_far.each_goes_on;
              wherever_a_crash_falls = last_goes_on catalog db first (present kind old) (kind.images mid) (kind.images new) (kind.moment mid) (kind.moment new) last earlier
                  run.each run.kept run.later receipts.from_first so_far.each_goes_on so_far.wherever_a_crash_falls;
            };
        receipts_stay = λ true' n.
            stays_join kind.moment kind.images (StandsForAtLeast catalog n) (kind.moment old) mid new (Front catalog db first last) (lived.receipts_stay true' n) (further true') (stays true' n);
        every_receipt_stands = record {
          from_first = receipts.from_first;
          within = receipts.within;
          fronts = now;
          few_behind = receipts.few_behind;
        };
      }

  module _ (told : kind.honest → kind.tells) (sees : (disk : D) → kind.honest → kind.images disk (kind.moment disk) (kind.seen disk)) (one : StandsForOne) where
    pub none_is_reopened : NoneIsReopened kind
    none_is_reopened = λ catalog db first last earlier old mid new lived none.
        stays_lived catalog db first last earlier old mid new lived
        (λ true'.
        let fronts = lived.every_receipt_stands.fronts true' in
        leaves_less kind.moment kind.images mid new (Left mid (StandForSame catalog (kind.seen mid))) (Front catalog db first last)
        (none.nothing_ran true') (λ image left. either catalog db first last mid image fronts (fronts (kind.seen mid) (sees mid true')) left))
        (none.receipts_stay last.list)
      where
        either : (catalog : Catalog) (db : Database) (first : ℕ) (last : Incarnation) (mid : D) (image : Files) → ((some : Files) → present kind mid some → Front catalog db first last some)
            → Front catalog db first last (kind.seen mid) → Left mid (StandForSame catalog (kind.seen mid)) image → Front catalog db first last image
        either catalog db first last mid image fronts here (inl left) = fronts image left
        either catalog db first last mid image fronts here (inr made) = record {
          some = here.some;
          within = here.within;
          enough = here.enough;
          stands = stands_so one catalog (kind.seen mid) image (first + here.some) (kept catalog (after catalog db (take here.some last.list))) made here.stands;
        }

    -- what was found is a front of the last list
    record Found (catalog : Catalog) (db : Database) (first : ℕ) (last : Incarnation) (from : Database) (place : ℕ) : Type 0 where
      stayed : ℕ
      within : stayed ≤ length last.list
      place_is : place ≡ first + stayed
      enough : last.receipted ≤ place
      same : kept catalog from ≡ kept catalog (after catalog db (take stayed last.list))

    found : (catalog : Catalog) (db : Database) (first : ℕ) (last : Incarnation) (earlier : List Incarnation) (from : Database) (place : ℕ) (old mid again : D) → kind.honest
        → Lived kind catalog db first last earlier old mid → Opened Strong catalog from place (change mid again) → Found catalog db first last from place
    found catalog db first last earlier from place old mid again true' lived opened =
        let front = lived.every_receipt_stands.fronts true' (kind.seen mid) (sees mid true') in
        let same = one catalog (kind.seen mid) place (first + front.some) (kept catalog from) (kept catalog (after catalog db (take front.some last.list))) (opened.stood (told true')) front.stands in
        record { stayed = front.some; within = front.within; place_is = same.0; enough = omega (arith, front.enough, same.0); same = same.1 }

    -- while a store is opened a crash leaves such fronts
    opening_leaves : (catalog : Catalog) (db : Database) (first : ℕ) (last : Incarnation) (earlier : List Incarnation) (from : Database) (place : ℕ) (old mid again : D) → Lived kind catalog db first last earlier old mid
        → Opened Strong catalog from place (change mid again) → kind.honest → LeavesOnly kind.moment kind.images mid again (Front catalog db first last)
    opening_leaves catalog db first last earlier from place old mid again lived opened true' =
        let f = found catalog db first last earlier from place old mid again true' lived opened in
        leaves_less kind.moment kind.images mid again (Left mid (Prefix catalog from place [])) (Front catalog db first last) (opened.crashes true')
        (λ image left. either f image left)
      where
        either : Found catalog db first last from place → (image : Files) → Left mid (Prefix catalog from place []) image → Front catalog db first last image
        either f image (inl left) = lived.every_receipt_stands.fronts true' image left
        either f image (inr front) = record {
          some = f.stayed;
          within = f.within;
          enough = omega (arith, f.enough, f.place_is);
          stands = subst (λ k. Stands catalog image (first + f.stayed) k) f.same (subst (λ (m : ℕ). Stands catalog image m (kept catalog from)) f.place_is (no_list_stands catalog from place image front));
        }

    pub no_engine_is_opened : NoEngineIsOpened kind
    no_engine_is_opened = λ catalog db first last earlier from place old mid again lived opened.
        stays_lived catalog db first last earlier old mid again lived (opening_leaves catalog db first last earlier from place old mid again lived opened) (opened.receipts_stay last.list)

    -- ---- one more

    pub one_more_incarnation : ReplaysGoOn → ReplaysHaveOrders → KeptCarries → FewStandBehind → OneMoreIncarnation kind
    one_more_incarnation goes_on have_orders carries few = λ catalog accepted db first last earlier from place list count old mid again new true' lived opened closed receipted.
        let f = found catalog db first last earlier from place old mid again true' lived opened in
        let stayed = take f.stayed last.list in
        let long : length stayed ≡ f.stayed = length-take-le f.stayed last.list f.within in
        let joined = goes_on catalog db stayed list in
        let carried = carries catalog from (after catalog db stayed) f.same list in
        let lists : AreOneList catalog db from first place stayed list = record {
          place = omega (arith, f.place_is, long);
          same = f.same;
          replays = joined.joins (front_replays goes_on catalog db last.list f.stayed lived.one_by_one) (carried.replays closed.replays);
          drained = λ drained. subst (Drained catalog) (sym joined.ends) (drained_carried carries catalog from (after catalog db stayed) f.same list drained);
        } in
        let next : Incarnation = record { moment = kind.moment again; list = stayed ++ list; receipted = count } in
        let from_first : first ≤ count = (let reached = receipted.from_first in omega (arith, reached, f.place_is)) in
        let opening = opening_leaves catalog db first last earlier from place old mid again lived opened in
        let behind = λ (least more : ℕ) (le : least ≤ more) (image : Files) (front : StandsForFront catalog from place list more image).
        front_before catalog db first (stayed ++ list) least more image le (behind_front goes_on carries catalog db from first place stayed list more image lists front) in
        record {
          stayed = f.stayed;
          within = f.within;
          place_is = f.place_is;
          receipted = f.enough;
          lists = lists;
          ends = carried.after ∙ ap (kept catalog) (sym joined.ends);
          lived = record {
            whole = lived.whole;
            stood = lived.stood;
            one_by_one = lists.replays;
            in_order = have_orders catalog db (stayed ++ list) accepted.structure.streams.wired lived.whole.in_step.matched lists.replays;
            wherever_a_crash_falls = λ h.
                let so_far = lived.wherever_a_crash_falls h in
                let engine = closed.crashes h in
                let reopening = opening h in record {
                  begin = so_far.begin;
                  each_goes_on = (
                    record { stayed = f.stayed; within = f.within; receipted = omega (arith, f.enough, f.place_is); few_behind = lived.every_receipt_stands.few_behind; found = (let reached = receipted.from_first in omega (arith, reached, f.place_is)); rest = list; begins = refl },
                    so_far.each_goes_on,
                  );
                  wherever_a_crash_falls = (
                    engine.later,
                    (λ t image since to left. behind last.receipted place f.enough image (engine.each t image since to left)),
                    last_goes_on catalog db first (present kind old) (kind.images mid) (kind.images new) (kind.moment mid) (kind.moment again) last earlier
                        (λ t image since to left. reopening.each t image since to (engine.kept t image to left))
                        (λ t image to left. reopening.kept t image to (engine.kept t image (let later = reopening.later in omega (arith, to, later)) left))
                        reopening.later lived.every_receipt_stands.from_first so_far.each_goes_on so_far.wherever_a_crash_falls,
                  );
                };
            receipts_stay = λ h n.
                let P : Files → Type 0 = StandsForAtLeast catalog n in
                stays_join kind.moment kind.images P (kind.moment old) again new (Prefix catalog from place list)
                (stays_join kind.moment kind.images P (kind.moment old) mid again (Front catalog db first last) (lived.receipts_stay h n) (opening h) (opened.receipts_stay last.list h n))
                (closed.crashes h) (closed.receipts_stay h n);
            every_receipt_stands = record {
              from_first = from_first;
              within = (let reaches = receipted.within in omega (arith, reaches, f.place_is, long, length-append stayed list));
              fronts = λ h image left. behind count count (omega arith) image (receipted.receipt h image left);
              few_behind = λ client.
                  few client first (stayed ++ list) count from_first (few_joined client first last.list f.stayed list place count f.within f.place_is receipted.from_first (receipted.few client));
            };
          };
        }
