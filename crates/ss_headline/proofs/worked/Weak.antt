-- The laws at a weak store that is made on an empty disk and run: a client's batch goes through the workflow that splits and joins, of which the
-- store has the push alone; and what recovering whatever a crash leaves comes to.
use Rattle.std.proofs.Common.{◌≡◌, ◌⊎◌, ◌∙◌, ⊎_elim, inl, inr, ℕ, zero, suc, pos, ◌<◌, ◌≤◌, List, [], ◌∷◌, ◌++◌, length, true, None, refl, sym, ap, subst, arith}
use Rattle.std.proofs.lemmas.Bool.{cases_lt}
use Rattle.std.proofs.lemmas.List.Elements.{All-from_recursion, All-nil}
use Rattle.ss_value.specs.declared.value.Value.TheVariants.{Int}
use Rattle.ss_model.specs.declared.entry.Answer.TheVariants.{NoMemory}
use Rattle.ss_model.specs.declared.entry.Entry.{Entry}
use Rattle.ss_model.specs.declared.entry.Listed.{Listed}
use Rattle.ss_model.specs.declared.entry.Mode.TheVariants as modes
use Rattle.ss_model.specs.Orders.{MatchesCounts}
use Rattle.ss_model.specs.Recovery.{Origin, Recovery, Weak}
use Rattle.ss_model.specs.Report.{End, Whole, report_text}
use Rattle.ss_model_laws.proofs.CallerLemmas.{accepted, empty_whole, matching_stays, replays_orders, whole_batch, whole_batch_drains, whole_batch_replays, workflow}
use Rattle.ss_model_laws.proofs.worked.WorkflowRun as run
use Rattle.ss_report_laws.specs.Replies.{weave}
use Rattle.ss_record.specs.Bounds.{IsRecordable, IsShort, IsTyped, IsTypedRow}
use Rattle.ss_record.specs.Numbers.{number_bytes}
use Rattle.ss_disk.specs.Files.{Files}
use Rattle.ss_disk.specs.Kinds.{DiskKind}
use Rattle.ss_disk.specs.Moments.{LeavesOnly, StaysFrom}
use Rattle.ss_disk.proofs.CallerLemmas.{one_call}
use Rattle.ss_cmdlog.specs.Formatting.{fresh}
use Rattle.ss_cmdlog.specs.Generation.{front_bytes, IsGroup, Stood}
use Rattle.ss_cmdlog.specs.Logged.{is_logged}
use Rattle.ss_cmdlog.specs.Store.{StandsFor, entries_of}
use Rattle.ss_standing.specs.Image.{empty_image_of}
use Rattle.ss_standing.specs.Standing.{IsImageAt}
use Rattle.ss_standing.proofs.CallerLemmas.{empty_fits, empty_had_none, end_behind, new_image_is, own_bodies_fit}
use Rattle.ss_standing.proofs.worked.Premises.{seven_typed}
use Rattle.ss_fronts.specs.Fronts.{AtLeast, FrontStands, LedTo}
use Rattle.ss_fronts.specs.WeakFronts.{asked_between}
use Rattle.ss_fronts.proofs.CallerLemmas.{front_less, grows}
use Rattle.ss_headline.specs.Disks.{DiskChange, disk_of, AtEachMoment}
use Rattle.ss_headline.specs.Laws.{StoppedRuns, WholeRuns}
use Rattle.ss_headline.specs.Layers.{Closed, Opened, Receipted, Settled}
use Rattle.ss_headline.specs.Recovering.{AllRecovers, CrashesHoldFromEach, CrashesRecover, RecoversAll, RecoversAsFront}
use Rattle.ss_headline.specs.Runs.{IsStoppedRun, IsWholeRun, LogEndsAs}
use Rattle.ss_headline.specs.Sentences.{stop_at}
use Rattle.ss_headline.proofs.worked.Premises as strong
use Rattle.ss_headline.proofs.worked.Premises.{start}

abbrev new_image : IsImageAt workflow true 0 (empty_image_of workflow) start
new_image = record { whole = empty_whole workflow accepted; had = empty_had_none workflow; fits = empty_fits true workflow own_bodies_fit; spelled = refl }

-- ---- a new store

abbrev new_store : Stood
new_store = fresh modes.Weak (empty_image_of workflow)

new_files : Files
new_files = record { selector = 0 ∷ []; first = front_bytes new_store ++ 0 ∷ []; second = [] }

new_files_stand : StandsFor new_files new_store
unfolding new_files
new_files_stand = record {
  byte = 0;
  selector = refl;
  current = record {
    stood = record { first = omega arith; image = omega (arith, new_image_is); groups = All-nil (IsGroup true modes.Weak) };
    gate = 0;
    rest = [];
    closed = λ e. absurd (omega (arith, e));
    spelled = refl;
  };
}

-- ---- it with the push behind its image

abbrev asked : List Entry
asked = run.push ∷ []

abbrev store : Stood
store = record { bodies = true; mode = modes.Weak; first = 0; image = empty_image_of workflow; groups = asked ∷ [] }

is_group : IsGroup true modes.Weak asked
unfolding number_bytes
is_group = record {
  some = omega arith;
  short = omega arith;
  recordable = All-from_recursion IsRecordable asked ((omega arith, omega arith, omega arith, All-from_recursion IsShort ((Int (pos 7) ∷ []) ∷ []) (omega arith, tt)), tt);
  typed = All-from_recursion IsTyped asked ((omega arith, omega arith, refl, All-from_recursion IsTypedRow ((Int (pos 7) ∷ []) ∷ []) (seven_typed, tt)), tt);
  of_mode = All-from_recursion (λ (e : Entry). is_logged modes.Weak e ≡ true) asked (refl, tt);
  of_form = λ old. absurd (cc);
}

files : Files
files = record { selector = 0 ∷ []; first = front_bytes store ++ 0 ∷ []; second = [] }

files_stand : StandsFor files store
unfolding files
files_stand = record {
  byte = 0;
  selector = refl;
  current = record {
    stood = record { first = omega arith; image = omega (arith, new_image_is); groups = All-from_recursion (IsGroup true modes.Weak) (asked ∷ []) (is_group, tt) };
    gate = 0;
    rest = [];
    closed = λ e. absurd (omega (arith, e));
    spelled = refl;
  };
}

-- ---- the run begins at the empty database, and its list is the push and the four steps behind it

abbrev origin : Origin
origin = record { place = 0; db = start; known = [] }

abbrev weak : Recovery
weak = Weak origin

led : LedTo workflow origin start 0
led = record { whole = empty_whole workflow accepted; is_weak = refl; replays = tt; reached = refl; placed = refl }

-- the disk: empty, with the new store, and with the push behind the image
abbrev seen : ℕ → Files
seen zero = record { selector = []; first = []; second = [] }
seen (suc zero) = new_files
seen (suc (suc n)) = files

-- each call is a moment, at which a crash leaves just that
abbrev images : ℕ → ℕ → Files → Type 0
images disk t image = image ≡ seen t

abbrev kind : DiskKind ℕ
kind = record { tells = Unit {0}; honest = Unit {0}; seen = seen; moment = λ disk. disk; images = images; faults = λ disk. 0 }

abbrev change : ℕ → ℕ → DiskChange
change = disk_of kind

next_call : (n : ℕ) (P : Files → Type 0) → P (seen n) → P (seen (suc n)) → LeavesOnly (λ disk. disk) images n (suc n) P
next_call n P before after =
    one_call (λ disk. disk) images n (suc n) P (record { later = omega arith; by_one = omega arith; kept = λ t image le left. left; keeps = λ t image le left. left })
    (λ image is. subst P (sym is) before) (λ image is. subst P (sym is) after)

-- ---- fronts: an empty disk and a new store have no entry, and the store has all of the batch

empty_front : FrontStands weak workflow start 0 [] 0 (seen 0)
empty_front = record {
  before = 0;
  some = 0;
  ordered = omega arith;
  within = omega arith;
  enough = omega arith;
  reads = inl (record { empty = refl; none = refl; whole = empty_whole workflow accepted; nothing = refl; no_entries = refl });
}

abbrev new_front : (list : List Listed) → FrontStands weak workflow start 0 list 0 new_files
new_front list = record {
  before = 0;
  some = 0;
  ordered = omega arith;
  within = omega arith;
  enough = omega arith;
  reads = inr (record { stood = new_store; stands = new_files_stand; read = record { weak = refl; first = refl; image = new_image; entries_are = refl } });
}

abbrev front : FrontStands weak workflow start 0 whole_batch 5 files
front = record {
  before = 0;
  some = 5;
  ordered = omega arith;
  within = omega arith;
  enough = omega arith;
  reads = inr (record { stood = store; stands = files_stand; read = record { weak = refl; first = refl; image = new_image; entries_are = refl } });
}

prefix : FrontStands weak workflow start 0 whole_batch 0 files
prefix = front_less weak workflow start 0 whole_batch 0 5 files (omega arith) front

-- what is a front of no list has no request of whichever
none_asked : (list : List Listed) (n : ℕ) (image : Files) → FrontStands weak workflow start 0 [] 0 image → AtLeast weak workflow list n image → n ≤ 0
none_asked list n image none has =
    let fewer : AtLeast weak workflow [] n image = (grows weak workflow start 0 [] list).no_more n image none has in
    let within : fewer.front.some ≤ 0 = fewer.front.within in
    let no_more : fewer.front.some ≡ 0 = omega (arith, within) in
    subst (λ (some : ℕ). n ≤ length (asked_between 0 some [])) no_more fewer.enough

-- so what it has stays over the next call
next_stays : (disk n : ℕ) (list : List Listed) → FrontStands weak workflow start 0 [] 0 (seen disk) → (n ≤ 0 → AtLeast weak workflow list n (seen (suc disk)))
    → StaysFrom (λ d. d) images disk (suc disk) (AtLeast weak workflow list n)
next_stays disk n list none next t u from le to each image is = ⊎_elim
    (λ (later : t < u).
    let few = none_asked list n (seen disk) none (subst (λ (m : ℕ). AtLeast weak workflow list n (seen m)) (first_of t u from later to) (each (seen t) refl)) in
    subst (AtLeast weak workflow list n) (sym (is ∙ ap seen (last_of t u from later to))) (next few))
    (λ (same : u ≤ t). each image (is ∙ ap seen (same_of t u le same)))
    (cases_lt t u)
  where
    first_of : (t u : ℕ) → disk ≤ t → t < u → u ≤ suc disk → t ≡ disk
    first_of t u a b c = omega arith

    last_of : (t u : ℕ) → disk ≤ t → t < u → u ≤ suc disk → u ≡ suc disk
    last_of t u a b c = omega arith

    same_of : (t u : ℕ) → t ≤ u → u ≤ t → u ≡ t
    same_of t u a b = omega arith

-- ---- the store is made, the batch runs, and the engine is closed

opened : Opened weak workflow start 0 (change 0 1)
opened = record {
  whole = empty_whole workflow accepted;
  began = λ t. led;
  stood = λ t. inl (record { empty = refl; none = refl; whole = empty_whole workflow accepted; nothing = refl; no_entries = refl });
  crashes = λ q. next_call 0 (λ image. (image ≡ seen 0) ⊎ FrontStands weak workflow start 0 [] 0 image) (inl refl) (inr (new_front []));
  receipts_stay = λ list q n. next_stays 0 n list empty_front (λ few. record { front = new_front list; enough = few });
  settled = λ q image is. is;
  faults = omega arith;
}

matches : MatchesCounts workflow start
matches = (matching_stays workflow accepted.structure.streams.wired).starts

closed : Closed weak workflow start 0 whole_batch (change 1 2)
closed = record {
  replays = whole_batch_replays;
  orders = replays_orders workflow accepted.structure.streams.wired start whole_batch matches whole_batch_replays;
  crashes = λ q. next_call 1 (FrontStands weak workflow start 0 whole_batch 0) (new_front whole_batch) prefix;
  receipts_stay = λ q n. next_stays 1 n whole_batch (new_front []) (λ few. record { front = prefix; enough = omega (arith, few) });
}

all_receipted : (image : Files) → image ≡ files → FrontStands weak workflow start 0 whole_batch 5 image
all_receipted image is = subst (FrontStands weak workflow start 0 whole_batch 5) (sym is) front

-- the log ends with the push
log_ends : LogEndsAs weak None whole_batch files
log_ends = record { stood = store; stands = files_stand; ends = end_behind None (entries_of store) [] asked refl }

settled : Settled weak None workflow start 0 whole_batch (change 1 2)
settled = record { drained = whole_batch_drains; receipt = λ q image is. all_receipted image is; logged = λ t. log_ends }

receipted : Receipted weak workflow start 0 whole_batch 5 (change 1 2)
receipted = record { from_first = omega arith; within = omega arith; receipt = λ q image is. all_receipted image is; few = strong.receipted.few }

-- ---- the run, whole and stopped, at a limit that the list meets

abbrev report : End → List ℕ
report end = report_text workflow (strong.request ∷ []) (weave NoMemory (strong.request ∷ []) strong.told) 0 whole_batch start end

whole_run : WholeRuns change → IsWholeRun weak None 5 workflow (strong.request ∷ []) start 0 whole_batch (report Whole) (change 0 2)
whole_run law = law weak None 5 workflow (strong.request ∷ []) start 0 whole_batch NoMemory strong.told 0 1 2 opened closed settled (strong.answered Whole) (omega arith)

abbrev full_end : End
full_end = stop_at 9 5 5 0 whole_batch 0 0

stopped_run : StoppedRuns change → IsStoppedRun weak None 5 workflow (strong.request ∷ []) start 0 whole_batch 9 5 (report full_end) (change 0 2)
stopped_run law =
    law weak None 5 workflow (strong.request ∷ []) start 0 whole_batch 9 5 NoMemory strong.told 0 1 2 opened closed receipted
    (λ t. inl (record { some = 5; within = omega arith; enough = omega arith; logged = log_ends })) (strong.answered full_end) (omega arith)

-- ---- what is recovered

recovers : WholeRuns change → CrashesRecover change → AtEachMoment (change 0 2) (RecoversAsFront workflow origin whole_batch 0)
recovers runs law = law workflow accepted origin start 0 whole_batch 0 0 2 led whole_batch_replays ((whole_run runs).session.each start refl).wherever_a_crash_falls

recovers_all : AllRecovers → RecoversAll workflow origin whole_batch files
recovers_all law = law workflow accepted origin start 0 whole_batch files led whole_batch_replays front

-- from whichever database with the same kept: here the empty one itself
from_each : CrashesHoldFromEach change → FrontStands weak workflow start 0 whole_batch 5 files
from_each law = law workflow origin start refl start start 0 whole_batch 5 files front
