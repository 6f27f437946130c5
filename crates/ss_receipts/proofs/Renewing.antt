-- What a log holds of a list, over a checkpoint behind all of it.
use Rattle.std.proofs.Common.{◌≡◌, true, ◌∙◌, ◌⊎◌, inl, inr, ⊎_elim, ℕ, ◌+◌, ◌-◌, ◌≤◌, List, length, take, Option, Some, None, IsSome, refl, sym, subst, arith}
use Rattle.ss_value.specs.FaultCounts.{Rose}
use Rattle.ss_model.specs.declared.catalog.Catalog.{Catalog}
use Rattle.ss_model.specs.declared.entry.Listed.{Listed}
use Rattle.ss_model.specs.declared.entry.Mode.{Mode}
use Rattle.ss_model.specs.Recovery.{Recovery}
use Rattle.ss_model.specs.Accepted.{Accepted}
use Rattle.ss_model.specs.Database.{Database}
use Rattle.ss_model.specs.Replays.{after}
use Rattle.ss_model.specs.Settling.{kept}
use Rattle.ss_model.specs.WholeDatabase.{HadAtMost, WholeDatabase}
use Rattle.ss_disk.specs.Files.{Files}
use Rattle.ss_disk.specs.Kinds.{DiskKind}
use Rattle.ss_disk.specs.Moments.{LeavesOnly}
use Rattle.ss_disk.proofs.CallerLemmas.{leaves_less, stays_join}
use Rattle.ss_cmdlog.specs.declared.log.CmdLog.{CmdLog}
use Rattle.ss_cmdlog.specs.Formatting.{LeavesSome}
use Rattle.ss_cmdlog.specs.Generation.{Stood}
use Rattle.ss_cmdlog.specs.Log.{IsOpen}
use Rattle.ss_cmdlog.specs.Logged.{logged}
use Rattle.ss_cmdlog.specs.Renewing.{renewed}
use Rattle.ss_cmdlog.specs.Store.{StandsFor, entries_of}
use Rattle.ss_standing.specs.Ends.{EndAs}
use Rattle.ss_standing.specs.Image.{image_bytes}
use Rattle.ss_standing.specs.Standing.{listed_entries}
use Rattle.ss_standing.proofs.CallerLemmas.{end_anew}
use Rattle.ss_fronts.specs.Fronts.{AtLeast, FrontStands, HoldsFront, StandsOnBy, mode_of}
use Rattle.ss_fronts.specs.Laws.{CheckpointsHold, CheckpointsKeepFronts, HeldFrontsStand}
use Rattle.ss_fronts.proofs.CallerLemmas.{front_less}
use Rattle.ss_receipts.specs.Past.{LeavesSince}
use Rattle.ss_receipts.specs.Holding.{Holds}
use Rattle.ss_receipts.specs.Checkpointing.{IsImageBehind}
use Rattle.ss_receipts.proofs.Flushing.{calm_since, rose_from}
use Rattle.ss_receipts.proofs.Since.{since_run}

module _ {D : Type 0} (recovery : Recovery) (every : Option ℕ) (catalog : Catalog) (db : Database) (first opened before : ℕ) (past : ℕ → List (List ℕ) → Type 0) (kind : DiskKind D) (honest_tells : kind.honest → kind.tells)
    (asked : IsSome every) (accepted : Accepted catalog) (whole : WholeDatabase catalog db) (had : HadAtMost first db)
    (stand : HeldFrontsStand) (hold : CheckpointsHold) (keep : CheckpointsKeepFronts D kind.moment kind.images)
    (list : List Listed) (old new : CmdLog D) (count fault : ℕ) (bytes : List ℕ) (is : IsImageBehind catalog db first list count bytes)
    (h : Holds recovery every catalog db first opened before past kind list old count fault) (none : old.halted ≡ None) where
  abbrev s : Stood
  s = (h.going none).generation

  -- a generation in the log's mode
  abbrev next : Stood
  next = renewed s.mode count bytes

  -- the log has all of the list
  end : count - first ≡ length list
  end = omega (arith, is.end)

  all_held : kind.tells → HoldsFront recovery catalog db first list (length list) s
  all_held told = subst (λ (n : ℕ). HoldsFront recovery catalog db first list n s) end ((h.going none).held told)

  mode_is : kind.tells → mode_of recovery ≡ s.mode
  mode_is told = sym (stand recovery catalog db first list (length list) s (h.began told) is.replays (all_held told)).mode

  -- the image of all of it
  abbrev image_of_all : List ℕ
  image_of_all = image_bytes true catalog (kept catalog (after catalog db list))

  next_held : kind.tells → HoldsFront recovery catalog db first list (length list) next
  next_held told =
      subst (λ (b : List ℕ). HoldsFront recovery catalog db first list (length list) (renewed s.mode count b)) (sym is.spelled)
      (subst (λ (n : ℕ). HoldsFront recovery catalog db first list (length list) (renewed s.mode n image_of_all)) (sym is.end)
      (subst (λ (m : Mode). HoldsFront recovery catalog db first list (length list) (renewed m (first + length list) image_of_all)) (mode_is told)
      (hold recovery catalog db first list accepted whole had (h.began told) is.replays is.fits)))

  module _ (moments : kind.honest → LeavesOnly kind.moment kind.images old.disk new.disk (λ image. StandsFor image s ⊎ StandsFor image next)) (some : kind.honest → LeavesSome kind.moment kind.images (kind.moment old.disk) new.disk) where
    -- either generation has all of the list
    fronts : kind.honest → LeavesOnly kind.moment kind.images old.disk new.disk (FrontStands recovery catalog db first list count)
    fronts honestly =
        let told = honest_tells honestly in
        leaves_less kind.moment kind.images old.disk new.disk (λ image. StandsFor image s ⊎ StandsFor image next) (FrontStands recovery catalog db first list count) (moments honestly)
        (λ image either. subst (λ (n : ℕ). FrontStands recovery catalog db first list n image) (sym is.end) (⊎_elim
        (λ (x : StandsFor image s). (stand recovery catalog db first list (length list) s (h.began told) is.replays (all_held told)).stands image x)
        (λ (y : StandsFor image next). (stand recovery catalog db first list (length list) next (h.began told) is.replays (next_held told)).stands image y)
        either))

    crashes : kind.honest → LeavesSince kind.moment kind.images opened past new.disk (FrontStands recovery catalog db first list first)
    crashes honestly = since_run kind.moment kind.images opened past old.disk new.disk (FrontStands recovery catalog db first list first) (h.crashes honestly)
        (leaves_less kind.moment kind.images old.disk new.disk (FrontStands recovery catalog db first list count) (FrontStands recovery catalog db first list first) (fronts honestly)
        (λ image front. front_less recovery catalog db first list first count image h.begun front))

    -- what a crash at some moment since the opening could not take, none in the checkpoint takes
    stands_on : kind.honest → StandsOnBy recovery catalog list kind.moment kind.images opened new.disk
    stands_on honestly n =
        let told = honest_tells honestly in
        stays_join kind.moment kind.images (AtLeast recovery catalog list n) opened old.disk new.disk _ (h.stands_on honestly n) (moments honestly)
        (keep recovery catalog db first list s next old.disk new.disk (h.began told) is.replays (all_held told) (next_held told) (moments honestly) (some honestly) n)

    receipt : kind.honest → (image : Files) → kind.images new.disk (kind.moment new.disk) image → FrontStands recovery catalog db first list count image
    receipt honestly image left = (let front = fronts honestly in front.each (kind.moment new.disk) image front.later (omega arith) left)

    module _ (later : kind.faults old.disk ≤ kind.faults new.disk) where
      -- the log goes on, on a generation that has the same
      holds_on_one : (g : Stood) → new.halted ≡ None → kind.faults new.disk ≡ kind.faults old.disk → new.count ≡ old.count → IsOpen kind new g → g.bodies ≡ true → (kind.tells → HoldsFront recovery catalog db first list (count - first) g)
          → (kind.tells → EndAs every (entries_of g) (logged (mode_of recovery) (listed_entries (take (count - first) list)))) → Holds recovery every catalog db first opened before past kind list new count 0
      holds_on_one g going still same open' formed held ends = record {
        began = h.began;
        begun = h.begun;
        within = h.within;
        counted = λ _. same ∙ h.counted none;
        later = omega (arith, h.later, later);
        halt = inl (going, refl, still ∙ calm_since before (kind.faults old.disk) old.halted fault h.halt none);
        going = λ _. record { generation = g; formed = formed; opened_at = open'; held = held; ends = ends };
        crashes = crashes;
        receipt = receipt;
        stands_on = stands_on;
      }

      -- on the new one
      pub holds_renewed : new.halted ≡ None → kind.faults new.disk ≡ kind.faults old.disk → new.count ≡ old.count → IsOpen kind new next → Holds recovery every catalog db first opened before past kind list new count 0
      holds_renewed going still same open' =
          holds_on_one next going still same open' refl (λ told. subst (λ (n : ℕ). HoldsFront recovery catalog db first list n next) (sym end) (next_held told))
          (λ told. end_anew every (logged (mode_of recovery) (listed_entries (take (count - first) list))) asked)

      -- on the one that there was
      pub holds_kept : new.halted ≡ None → kind.faults new.disk ≡ kind.faults old.disk → new.count ≡ old.count → IsOpen kind new s → Holds recovery every catalog db first opened before past kind list new count 0
      holds_kept going still same open' = holds_on_one s going still same open' (h.going none).formed (h.going none).held (h.going none).ends

      -- the disk failed
      pub holds_failed : (n : ℕ) → new.halted ≡ Some n → n ≡ kind.faults new.disk → Rose (kind.faults old.disk) (kind.faults new.disk)
          → Holds recovery every catalog db first opened before past kind list new count n
      holds_failed n halted faults rose = record {
        began = h.began;
        begun = h.begun;
        within = h.within;
        counted = λ going. cc;
        later = omega (arith, h.later, later);
        halt = inr (halted, subst (λ (m : ℕ). Rose before m) (sym faults) (rose_from before (kind.faults old.disk) (kind.faults new.disk) h.later rose), omega (arith, faults));
        going = λ going. absurd (cc);
        crashes = crashes;
        receipt = receipt;
        stands_on = stands_on;
      }
