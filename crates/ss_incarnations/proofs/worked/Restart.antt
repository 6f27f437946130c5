-- The laws at a store that is made on an empty disk and opened at a second try, on which a batch is run, and which is then opened again.
use Rattle.std.proofs.Common.{◌≡◌, ◌<◌, ◌⊎◌, inl, inr, ℕ, List, [], ◌∷◌, ◌++◌, take, Option, IfSome, refl, sym, ap, subst, arith, append-nil}
use Rattle.ss_model.specs.declared.entry.Answer.TheVariants.{NoMemory}
use Rattle.ss_model.specs.declared.entry.Listed.{Listed}
use Rattle.ss_model.specs.Recovery.{Strong}
use Rattle.ss_model.specs.Report.{Whole, report_text}
use Rattle.ss_model.specs.Settling.{kept}
use Rattle.ss_model_laws.proofs.CallerLemmas.{accepted, empty_whole, whole_batch, whole_batch_drains, workflow}
use Rattle.ss_report_laws.specs.Replies.{weave}
use Rattle.ss_disk.specs.Files.{Files}
use Rattle.ss_disk.specs.Kinds.{present}
use Rattle.ss_disk.proofs.CallerLemmas.{leaves_less, no_call, stays_none}
use Rattle.ss_cmdlog.specs.Store.{entries_of}
use Rattle.ss_standing.specs.Standing.{Prefix, StandsForAtLeast}
use Rattle.ss_standing.proofs.CallerLemmas.{batch_files, batch_files_stand, batch_store, end_behind}
use Rattle.ss_headline.specs.Disks.{DiskChange, disk_of}
use Rattle.ss_headline.specs.Layers.{Opened, Receipted}
use Rattle.ss_headline.specs.Runs.{LogEndsAsStopped, Logged}
use Rattle.ss_headline.proofs.CallerLemmas.{batch_answered, batch_closed, batch_disk, batch_logged, batch_opened, batch_receipted, batch_request, batch_start, batch_told, behind_batch, closed_again, found_again, new_store_stands, no_list_stands, opened_again}
use Rattle.ss_incarnations.specs.Incarnations.{Incarnation}
use Rattle.ss_incarnations.specs.Openings.{NoneIsTried, NoneIsOpened, NotOpened, OpenedAtLast, StandForSame}
use Rattle.ss_incarnations.specs.Reopening.{Lived, LivesOn, FirstIncarnation, NoneIsReopened, NoEngineIsOpened, OneMoreIncarnation}
use Rattle.ss_incarnations.specs.Runs.{EndsWithOwn, IsStoppedRunOver, IsWholeRunOver, RunsOverRestarts, stop_over}

abbrev change : ℕ → ℕ → DiskChange
change = disk_of batch_disk

-- ---- the first try makes a store, the second opens it

-- the new store stands for what the empty disk does
not_opened : NotOpened workflow (change 0 1)
not_opened = record {
  nothing_ran = λ true'. leaves_less (λ disk. disk) batch_disk.images 0 1 _ _ (batch_opened.crashes true') (λ image either. by image either);
  receipts_stay = batch_opened.receipts_stay;
  reads = λ true'. inr (0, kept workflow batch_start, batch_opened.stood tt, new_store_stands);
}
  where
    by : (image : Files) → present batch_disk 0 image ⊎ Prefix workflow batch_start 0 [] image → present batch_disk 0 image ⊎ StandForSame workflow (batch_disk.seen 0) image
    by image (inl left) = inl left
    by image (inr front) = inr (0, kept workflow batch_start, batch_opened.stood tt, no_list_stands workflow batch_start 0 image front)

opened_then : Opened Strong workflow batch_start 0 (change 1 1)
opened_then = record {
  whole = empty_whole workflow accepted;
  began = λ told. tt;
  stood = λ told. new_store_stands;
  crashes = λ true'. no_call (λ disk. disk) batch_disk.images 1 _ (λ image is. inl is);
  receipts_stay = λ list true' n. stays_none (λ disk. disk) batch_disk.images (StandsForAtLeast workflow n) 1 1 (omega arith);
  settled = λ true' image is. is;
  faults = omega arith;
}

opened_late : OpenedAtLast batch_disk → Opened Strong workflow batch_start 0 (change 0 1)
opened_late law = law workflow batch_start 0 0 1 1 tt not_opened (omega arith) opened_then

twice : NoneIsTried batch_disk → NoneIsOpened batch_disk → NotOpened workflow (change 0 1)
twice untried law = law workflow 0 1 1 not_opened (untried workflow 1)

-- ---- the batch is the first incarnation, and the disk is opened again

abbrev first : Incarnation
first = record { moment = 0; list = whole_batch; receipted = 5 }

lived : OpenedAtLast batch_disk → FirstIncarnation batch_disk → Lived batch_disk workflow batch_start 0 first [] 0 2
lived late law = law workflow batch_start 0 whole_batch 5 0 1 2 (opened_late late) batch_closed batch_receipted

lived_on : NoneIsTried batch_disk → NoneIsReopened batch_disk → Lived batch_disk workflow batch_start 0 first [] 0 2 → Lived batch_disk workflow batch_start 0 first [] 0 2
lived_on untried law so_far = law workflow batch_start 0 first [] 0 2 2 so_far (untried workflow 2)

lived_alone : NoEngineIsOpened batch_disk → Lived batch_disk workflow batch_start 0 first [] 0 2 → Lived batch_disk workflow batch_start 0 first [] 0 2
lived_alone law so_far = law workflow batch_start 0 first [] behind_batch 5 0 2 2 so_far opened_again

receipted_again : Receipted Strong workflow behind_batch 5 [] 5 (change 2 2)
receipted_again = record {
  from_first = omega arith;
  within = omega arith;
  receipt = λ true' image is. found_again image is;
  few = λ client. record { receipted = []; others = []; parts = refl; below = tt; few = omega arith };
}

lives_on : OneMoreIncarnation batch_disk → Lived batch_disk workflow batch_start 0 first [] 0 2 → LivesOn batch_disk workflow batch_start 0 first [] behind_batch 5 [] 5 2 0 2
lives_on law so_far = law workflow accepted batch_start 0 first [] behind_batch 5 [] 5 0 2 2 2 tt so_far opened_again closed_again receipted_again

-- all of the batch is found
abbrev second : Incarnation
second = record { moment = 2; list = whole_batch; receipted = 5 }

two : LivesOn batch_disk workflow batch_start 0 first [] behind_batch 5 [] 5 2 0 2 → Lived batch_disk workflow batch_start 0 second (first ∷ []) 0 2
two lives =
    let all : lives.stayed ≡ 5 = omega (arith, lives.place_is) in
    subst (λ (list : List Listed). Lived batch_disk workflow batch_start 0 (record { moment = 2; list = list; receipted = 5 }) (first ∷ []) 0 2) (ap (λ n. take n whole_batch ++ []) all) lives.lived

-- ---- the run over both, at a limit that the list meets

abbrev none_more : List Listed
none_more = []

own : (every : Option ℕ) → IfSome every (λ n. 5 < n) → EndsWithOwn 0 whole_batch whole_batch (λ place list. Logged Strong every place list batch_files)
own every few = record { stayed = 5; within = omega arith; own = []; parts = refl; says = batch_logged every 5 (entries_of batch_store) [] (sym (append-nil (entries_of batch_store))) few }

pub whole_run : (every : Option ℕ) → IfSome every (λ n. 5 < n) → RunsOverRestarts batch_disk → Lived batch_disk workflow batch_start 0 second (first ∷ []) 0 2
    → IsWholeRunOver batch_disk every 5 workflow (batch_request ∷ []) batch_start 0 second (first ∷ []) (report_text workflow (batch_request ∷ []) (weave NoMemory (batch_request ∷ []) batch_told) 0 whole_batch batch_start Whole) 0 2
whole_run every few law ran =
    law.whole every 5 workflow (batch_request ∷ []) batch_start 0 second (first ∷ []) NoMemory batch_told 0 2 ran refl whole_batch_drains (λ told. own every few) (batch_answered Whole) (omega arith)

own_at_stop : (every : Option ℕ) → EndsWithOwn 0 whole_batch whole_batch (λ place list. LogEndsAsStopped Strong every 9 place list 5 (change 2 2))
own_at_stop every = record {
  stayed = 5;
  within = omega arith;
  own = [];
  parts = refl;
  says = λ told. inl (record {
    some = 0;
    within = omega arith;
    enough = omega arith;
    logged = record { stood = batch_store; stands = batch_files_stand; ends = end_behind every (entries_of batch_store) (entries_of batch_store) [] (sym (append-nil (entries_of batch_store))) };
  });
}

stopped_run : (every : Option ℕ) → RunsOverRestarts batch_disk → Lived batch_disk workflow batch_start 0 second (first ∷ []) 0 2
    → IsStoppedRunOver batch_disk every 5 workflow (batch_request ∷ []) batch_start 0 second (first ∷ []) 9
    (report_text workflow (batch_request ∷ []) (weave NoMemory (batch_request ∷ []) batch_told) 0 whole_batch batch_start (stop_over batch_disk 9 5 0 second 0 2)) 0 2
stopped_run every law ran =
    law.stopped every 5 workflow (batch_request ∷ []) batch_start 0 second (first ∷ []) 9 NoMemory batch_told 0 2 2 (omega arith) ran (own_at_stop every) (batch_answered (stop_over batch_disk 9 5 0 second 2 2)) (omega arith)
