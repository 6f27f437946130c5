-- What a log holds of a list, over a flush of the rest of it.
use Rattle.std.proofs.Common.{◌≡◌, ◌∙◌, inl, inr, ℕ, ◌+◌, ◌-◌, ◌≤◌, List, ◌++◌, length, take, drop, Option, Some, None, refl, sym, ap, subst, arith, length-drop, take-add}
use Rattle.std.specs.List.{flat_map}
use Rattle.std.proofs.lemmas.Grind.{flat_map-append}
use Rattle.std.proofs.lemmas.List.{map-append, take-map, take_all}
use Rattle.std.proofs.lemmas.List.Elements.{filter-append}
use Rattle.ss_value.specs.FaultCounts.{Rose}
use Rattle.ss_model.specs.declared.catalog.Catalog.{Catalog}
use Rattle.ss_model.specs.declared.entry.Entry.{Entry}
use Rattle.ss_model.specs.declared.entry.Listed.{Listed}
use Rattle.ss_model.specs.declared.entry.Mode.{Mode}
use Rattle.ss_model.specs.Recovery.{Recovery}
use Rattle.ss_model.specs.Database.{Database}
use Rattle.ss_disk.specs.Files.{Files}
use Rattle.ss_disk.specs.Kinds.{DiskKind}
use Rattle.ss_disk.specs.Moments.{LeavesOnly}
use Rattle.ss_disk.proofs.CallerLemmas.{leaves_less, stays_join}
use Rattle.ss_cmdlog.specs.declared.log.CmdLog.{CmdLog}
use Rattle.ss_cmdlog.specs.Generation.{Stood}
use Rattle.ss_cmdlog.specs.Groups.{groups_of}
use Rattle.ss_cmdlog.specs.Log.{AddsSome, IsOpen, KeepsCounts}
use Rattle.ss_cmdlog.specs.Logged.{is_logged, logged}
use Rattle.ss_cmdlog.specs.Store.{StandsForPart, entries_of, with_groups}
use Rattle.ss_cmdlog.proofs.CallerLemmas.{open_here}
use Rattle.ss_standing.specs.Ends.{EndAs}
use Rattle.ss_standing.specs.Standing.{listed_entries}
use Rattle.ss_standing.proofs.CallerLemmas.{end_with_more, entries_count}
use Rattle.ss_fronts.specs.Fronts.{AtLeast, FrontStands, HoldsFront, StandsOnBy, mode_of}
use Rattle.ss_fronts.specs.Laws.{FlushesKeepFronts, HeldFrontsStand, HeldStands, left_of}
use Rattle.ss_fronts.proofs.CallerLemmas.{front_less}
use Rattle.ss_receipts.specs.Past.{LeavesSince}
use Rattle.ss_receipts.specs.Holding.{HaltedAt, Holds, AreRest}
use Rattle.ss_receipts.proofs.Since.{since_run}

-- a count that rose from a later one rose from an earlier one, and is not 0
pub rose_from : (before then now : ℕ) → before ≤ then → Rose then now → Rose before now
rose_from before then now le rose = omega (arith, rose)

-- while a log goes on its disk has counted no fault
pub calm_since : (before now : ℕ) (halted : Option ℕ) (fault : ℕ) → HaltedAt before now halted fault → halted ≡ None → now ≡ before
calm_since before now halted fault (inl going) none = going.2
calm_since before now halted fault (inr stopped) none = absurd (cc)

-- as many entries are left as the list has places behind the count
pub rest_count : (catalog : Catalog) (db : Database) (first : ℕ) (list : List Listed) (count : ℕ) (entries : List Entry) → AreRest catalog db first list count entries → first ≤ count → count ≤ first + length list
    → count + length entries ≡ first + length list
rest_count catalog db first list count entries rest begun within =
    omega (arith, ap length rest.entries_are, entries_count (drop (count - first) list), length-drop (count - first) list, begun, within)

-- what a log has of the first entries of a list, so many and then so many more
logged_parts : (mode : Mode) (list : List Listed) (held k : ℕ) → logged mode (listed_entries (take (held + k) list)) ≡ logged mode (listed_entries (take held list)) ++ logged mode (take k (listed_entries (drop held list)))
logged_parts mode list held k =
    ap (λ (l : List Listed). logged mode (listed_entries l)) (take-add held k list)
    ∙ ap (logged mode) (map-append (λ (l : Listed). l.entry) (take held list) (take k (drop held list)))
    ∙ filter-append (is_logged mode) (listed_entries (take held list)) (listed_entries (take k (drop held list)))
    ∙ ap (λ (es : List Entry). logged mode (listed_entries (take held list)) ++ logged mode es) (sym (take-map (λ (l : Listed). l.entry) k (drop held list)))

module _ {D : Type 0} (recovery : Recovery) (every : Option ℕ) (catalog : Catalog) (db : Database) (first opened before : ℕ) (past : ℕ → List (List ℕ) → Type 0) (kind : DiskKind D) (honest_tells : kind.honest → kind.tells)
    (stand : HeldFrontsStand) (keep : FlushesKeepFronts D kind.moment kind.images)
    (list : List Listed) (old new : CmdLog D) (count fault : ℕ) (entries : List Entry) (rest : AreRest catalog db first list count entries)
    (h : Holds recovery every catalog db first opened before past kind list old count fault) (none : old.halted ≡ None) where
  abbrev held : ℕ
  held = count - first

  abbrev s : Stood
  s = (h.going none).generation

  held_place : first + held ≡ count
  held_place = omega (arith, h.begun)

  stands : kind.tells → HeldStands recovery catalog db first list held s
  stands told = stand recovery catalog db first list held s (h.began told) rest.replays ((h.going none).held told)

  -- what the log has of the entries
  logged_are : kind.tells → logged s.mode entries ≡ left_of recovery list held
  logged_are told = ap (λ (m : Mode). logged m entries) (stands told).mode ∙ ap (logged (mode_of recovery)) rest.entries_are

  module _ (moments : kind.honest → LeavesOnly kind.moment kind.images old.disk new.disk (StandsForPart s (groups_of (logged s.mode entries)))) (counts : kind.honest → KeepsCounts kind.moment kind.images (kind.moment old.disk) new.disk) where
    run : kind.honest → LeavesOnly kind.moment kind.images old.disk new.disk (StandsForPart s (groups_of (left_of recovery list held)))
    run honestly =
        subst (λ (es : List Entry). LeavesOnly kind.moment kind.images old.disk new.disk (StandsForPart s (groups_of es))) (logged_are (honest_tells honestly)) (moments honestly)

    -- each image of the flush is a front that has what was receipted
    fronts : kind.honest → LeavesOnly kind.moment kind.images old.disk new.disk (FrontStands recovery catalog db first list count)
    fronts honestly =
        leaves_less kind.moment kind.images old.disk new.disk (StandsForPart s (groups_of (left_of recovery list held))) (FrontStands recovery catalog db first list count) (run honestly)
        (λ image part. subst (λ (n : ℕ). FrontStands recovery catalog db first list n image) held_place ((stands (honest_tells honestly)).in_flush image part))

    crashes : kind.honest → LeavesSince kind.moment kind.images opened past new.disk (FrontStands recovery catalog db first list first)
    crashes honestly = since_run kind.moment kind.images opened past old.disk new.disk (FrontStands recovery catalog db first list first) (h.crashes honestly)
        (leaves_less kind.moment kind.images old.disk new.disk (FrontStands recovery catalog db first list count) (FrontStands recovery catalog db first list first) (fronts honestly)
        (λ image front. front_less recovery catalog db first list first count image h.begun front))

    -- what a crash at some moment since the opening could not take, none in the flush takes
    stands_on : kind.honest → StandsOnBy recovery catalog list kind.moment kind.images opened new.disk
    stands_on honestly n =
        stays_join kind.moment kind.images (AtLeast recovery catalog list n) opened old.disk new.disk _ (h.stands_on honestly n) (moments honestly)
        (keep recovery catalog db first list held s old.disk new.disk (h.began (honest_tells honestly)) rest.replays ((h.going none).held (honest_tells honestly)) (run honestly) (counts honestly) n)

    module _ (later : kind.faults old.disk ≤ kind.faults new.disk) where
      -- the first entries of the rest are there
      module _ (going : new.halted ≡ None) (still : kind.faults new.disk ≡ kind.faults old.disk) (k : ℕ) (few : k ≤ length entries) (groups : List (List Entry)) (are : flat_map (λ (es : List Entry). es) groups ≡ logged s.mode (take k entries))
          (open' : IsOpen kind new (with_groups s groups)) (counted : new.count ≡ old.count + k) where
        counts_more : new.count ≡ count + k
        counts_more = omega (arith, counted, h.counted none)

        few_left : k ≤ length (drop held list)
        few_left = omega (arith, few, ap length rest.entries_are, entries_count (drop held list))

        added_are : kind.tells → flat_map (λ (es : List Entry). es) groups ≡ logged (mode_of recovery) (take k (listed_entries (drop held list)))
        added_are told = are ∙ ap (λ (m : Mode). logged m (take k entries)) (stands told).mode ∙ ap (λ (es : List Entry). logged (mode_of recovery) (take k es)) rest.entries_are

        holds_more : kind.tells → HoldsFront recovery catalog db first list (held + k) (with_groups s groups)
        holds_more told = (stands told).adds k groups few_left (added_are told)

        place : held + k ≡ new.count - first
        place = omega (arith, counts_more, h.begun)

        ends : kind.tells → EndAs every (entries_of (with_groups s groups)) (logged (mode_of recovery) (listed_entries (take (new.count - first) list)))
        ends told =
            let more = logged (mode_of recovery) (take k (listed_entries (drop held list))) in
            subst (EndAs every (entries_of (with_groups s groups))) (sym (logged_parts (mode_of recovery) list held k) ∙ ap (λ (n : ℕ). logged (mode_of recovery) (listed_entries (take n list))) place)
            (subst (λ (es : List Entry). EndAs every es (logged (mode_of recovery) (listed_entries (take held list)) ++ more)) (sym (flat_map-append (λ (es : List Entry). es) s.groups groups ∙ ap (λ (es : List Entry). entries_of s ++ es) (added_are told)))
            (end_with_more every (entries_of s) (logged (mode_of recovery) (listed_entries (take held list))) more ((h.going none).ends told)))

        receipt : kind.honest → (image : Files) → kind.images new.disk (kind.moment new.disk) image → FrontStands recovery catalog db first list new.count image
        receipt honestly image left =
            let told = honest_tells honestly in
            subst (λ (n : ℕ). FrontStands recovery catalog db first list n image) (omega (arith, counts_more, h.begun))
            ((stand recovery catalog db first list (held + k) (with_groups s groups) (h.began told) rest.replays (holds_more told)).stands image (open_here kind new (with_groups s groups) open' told honestly image left))

        pub holds_first : Holds recovery every catalog db first opened before past kind list new new.count 0
        holds_first = record {
          began = h.began;
          begun = omega (arith, h.begun, counts_more);
          within = omega (arith, counts_more, few, rest_count catalog db first list count entries rest h.begun h.within);
          counted = λ _. refl;
          later = omega (arith, h.later, later);
          halt = inl (going, refl, still ∙ calm_since before (kind.faults old.disk) old.halted fault h.halt none);
          going = λ _. record {
            generation = with_groups s groups;
            formed = (h.going none).formed;
            opened_at = open';
            held = λ told. subst (λ (n : ℕ). HoldsFront recovery catalog db first list n (with_groups s groups)) place (holds_more told);
            ends = ends;
          };
          crashes = crashes;
          receipt = receipt;
          stands_on = stands_on;
        }

      -- all of it is written
      pub holds_all : ((es : List Entry) → flat_map (λ (e : List Entry). e) (groups_of es) ≡ es) → new.halted ≡ None → kind.faults new.disk ≡ kind.faults old.disk → new.count ≡ old.count + length entries
          → IsOpen kind new (with_groups s (groups_of (logged s.mode entries)))
          → Holds recovery every catalog db first opened before past kind list new new.count 0
      holds_all groups going still counts open' =
          holds_first going still (length entries) (omega arith) (groups_of (logged s.mode entries))
          (groups (logged s.mode entries) ∙ ap (logged s.mode) (sym (take_all (length entries) entries (omega arith)))) open' counts

      -- the first groups are
      pub holds_some : new.halted ≡ None → kind.faults new.disk ≡ kind.faults old.disk → AddsSome kind old new s entries
          → Holds recovery every catalog db first opened before past kind list new new.count 0
      holds_some going still adds =
          holds_first going still adds.some adds.within (take adds.groups (groups_of (logged s.mode entries))) adds.are adds.opens adds.counted

      -- the disk failed
      pub holds_halted : (n : ℕ) → new.halted ≡ Some n → n ≡ kind.faults new.disk → Rose (kind.faults old.disk) (kind.faults new.disk)
          → Holds recovery every catalog db first opened before past kind list new count n
      holds_halted n halted is rose = record {
        began = h.began;
        begun = h.begun;
        within = h.within;
        counted = λ going. cc;
        later = omega (arith, h.later, later);
        halt = inr (halted, subst (λ (m : ℕ). Rose before m) (sym is) (rose_from before (kind.faults old.disk) (kind.faults new.disk) h.later rose), omega (arith, is));
        going = λ going. absurd (cc);
        crashes = crashes;
        receipt = λ honestly image left. (let front = fronts honestly in front.each (kind.moment new.disk) image front.later (omega arith) left);
        stands_on = stands_on;
      }
