-- The laws at a store that is made on an empty disk, run and closed: a client's batch goes through the workflow that splits and joins.
use Rattle.std.proofs.Common.{◌≡◌, ◌⊎◌, ◌<◌, ◌==◌, ⊎_elim, ap, ◌∙◌, ℕ, zero, suc, pos, codes, List, [], ◌∷◌, ◌++◌, length, replicate, take, true, false, cond, Option, Some, None, IfSome, ◌+◌, ◌≤◌, inl, inr, refl, sym, subst, arith, append-nil}
use Rattle.ss_disk.specs.Kinds.{DiskKind}
use Rattle.std.specs.List.{AllByRecursion, cons_option, filter_map}
use Rattle.std.proofs.lemmas.Bool.{cases_lt}
use Rattle.std.proofs.lemmas.List.Elements.{All-nil}
use Rattle.ss_value.specs.declared.value.Value.TheVariants.{Int}
use Rattle.ss_model.specs.declared.entry.Answer.{Answer}
use Rattle.ss_model.specs.declared.entry.Answer.TheVariants.{Listed as ListedAnswer, NoMemory}
use Rattle.ss_model.specs.declared.entry.Asked.TheVariants.{Push as PushAsked, Install as InstallAsked}
use Rattle.ss_model.specs.declared.entry.Entry.{Entry}
use Rattle.ss_model.specs.declared.entry.Entry.TheVariants.{Push, Step as StepEntry, Install}
use Rattle.ss_model.specs.declared.entry.Listed.{Listed}
use Rattle.ss_model.specs.declared.entry.Mode.TheVariants as modes
use Rattle.ss_model.specs.declared.entry.Outcome.TheVariants.{Done, Aborted}
use Rattle.ss_model.specs.declared.entry.Reason.TheVariants.{Raised}
use Rattle.ss_model.specs.declared.entry.Request.{Request}
use Rattle.ss_model.specs.Database.{Database, apply, empty_database}
use Rattle.ss_model.specs.Orders.{MatchesCounts}
use Rattle.ss_model.specs.Recovery.{Strong}
use Rattle.ss_model.specs.Replays.{Replays, after}
use Rattle.ss_model.specs.Report.{End, Whole, Report, Rising, client_index, report_text}
use Rattle.ss_model.specs.Settled.{NoneReady}
use Rattle.ss_model.specs.Settling.{kept, pending_steps}
use Rattle.ss_model_laws.proofs.CallerLemmas.{accepted, workflow, empty_whole, matching_stays, replays_orders, whole_after, whole_batch, whole_batch_drains, whole_batch_replays}
use Rattle.ss_report_laws.specs.Replies.{mine, weave, AreAnswered}
use Rattle.ss_report_laws.proofs.CallerLemmas.{answered_nothing, answered_request, answered_report, answered_step, pushed_one}
use Rattle.ss_disk.specs.Files.{Files}
use Rattle.ss_disk.specs.Moments.{LeavesOnly, StaysFrom}
use Rattle.ss_disk.proofs.CallerLemmas.{no_call, one_call, stays_none}
use Rattle.ss_cmdlog.specs.Generation.{Stood, IsGroup, front_bytes}
use Rattle.ss_cmdlog.specs.Formatting.{fresh}
use Rattle.ss_cmdlog.specs.Log.{IsSettled}
use Rattle.ss_cmdlog.specs.Logged.{logged}
use Rattle.ss_cmdlog.specs.Store.{IsEmpty, StandsFor, entries_of}
use Rattle.ss_cmdlog.proofs.CallerLemmas.{files_stand_for_one}
use Rattle.ss_standing.specs.Image.{empty_image_of}
use Rattle.ss_standing.specs.Standing.{Stands, Prefix, StandsForAtLeast, StandsForFront, listed_entries}
use Rattle.ss_standing.proofs.CallerLemmas.{counts_executions, forming_stands, new_image_is, nothing_stands, own_bodies_fit, batch_store, batch_files, batch_files_stand, batch_prefix, batch_stands, batch_at_least, end_behind}
use Rattle.ss_fronts.proofs.CallerLemmas.{all_logged}
use Rattle.ss_headline.specs.Between.{CallsGoOn, GoesOnBehindAll, GoesOnBehindFront, HadList, QuietLeaves, QuietStays}
use Rattle.ss_headline.specs.Disks.{DiskChange, disk_of, AtEachMoment, NothingRan, OnlyRead}
use Rattle.ss_headline.specs.Sentences.{WholeSession, StoppedSession, stop_at}
use Rattle.ss_headline.specs.Runs.{IsWholeRun, IsStoppedRun, LogEndsAs, LogEndsAsStopped, Logged}
use Rattle.ss_headline.specs.Untouched.{NothingRanStands, UncalledIsOnlyRead}
use Rattle.ss_headline.specs.Owed.{owed, outside, ListsAsked, FullListsHaveAll}
use Rattle.ss_headline.specs.Laws.{LogsEndWithLists, NearGenerationsBegin, WholeSessions, StoppedSessions, WholeRuns, StoppedRuns, RunsHoldFromEach}
use Rattle.ss_headline.specs.Layers.{Opened, Closed, Settled, FewUnreceipted, Receipted}
use Rattle.ss_headline.proofs.Untouched.{none_stands}
use Rattle.ss_headline.proofs.Owed.{owed_is_enough}

abbrev push : Entry
push = Push 0 0 0 (codes "a") 0 ((Int (pos 7) ∷ []) ∷ [])

abbrev pushed_entry : Listed
pushed_entry = record { entry = push; outcome = Done [] }

abbrev pub start : Database
start = empty_database workflow

-- ---- the disk: empty, with a new store, and with the batch behind its image

abbrev new_store : Stood
new_store = fresh modes.Strong (empty_image_of workflow)

pub new_files : Files
new_files = record { selector = 0 ∷ []; first = front_bytes new_store ++ 0 ∷ []; second = [] }

new_files_stand : StandsFor new_files new_store
unfolding new_files
new_files_stand = record {
  byte = 0;
  selector = refl;
  current = record {
    stood = record { first = omega arith; image = omega (arith, new_image_is); groups = All-nil (IsGroup true modes.Strong) };
    gate = 0;
    rest = [];
    closed = λ e. absurd (omega (arith, e));
    spelled = refl;
  };
}

-- what a read gives of the disk after so many calls
abbrev pub seen : ℕ → Files
seen zero = record { selector = []; first = []; second = [] }
seen (suc zero) = new_files
seen (suc (suc n)) = batch_files

-- each call is a moment, at which a crash leaves just that
abbrev images : ℕ → ℕ → Files → Type 0
images disk t image = image ≡ seen t

abbrev pub kind : DiskKind ℕ
kind = record { tells = Unit {0}; honest = Unit {0}; seen = seen; moment = λ disk. disk; images = images; faults = λ disk. 0 }

abbrev change : ℕ → ℕ → DiskChange
change = disk_of kind

-- nothing is pending on it
settled_so : (disk : ℕ) → IsSettled kind disk
settled_so disk image is = is

next_call : (n : ℕ) (P : Files → Type 0) → P (seen n) → P (seen (suc n)) → LeavesOnly (λ disk. disk) images n (suc n) P
next_call n P before after =
    one_call (λ disk. disk) images n (suc n) P (record { later = omega arith; by_one = omega arith; kept = λ t image le left. left; keeps = λ t image le left. left })
    (λ image is. subst P (sym is) before) (λ image is. subst P (sym is) after)

-- so is one of which less is said
next_call_anew : (n : ℕ) (P : Files → Type 0) → P (seen (suc n)) → AtEachMoment (change n (suc n)) P
next_call_anew n P after true' = next_call n (λ image. (image ≡ seen n) ⊎ P image) (inl refl) (inr after)

-- where no image before stands for more than each behind a call does, what stands stays
next_stays : (disk a n : ℕ) → (StandsForAtLeast workflow n (seen disk) → n ≤ a) → StandsForAtLeast workflow a (seen (suc disk)) → StaysFrom (λ d. d) images disk (suc disk) (StandsForAtLeast workflow n)
next_stays disk a n most least t u from le to each image is = ⊎_elim
    (λ (later : t < u).
    let enough = most (subst (λ (m : ℕ). StandsForAtLeast workflow n (seen m)) (first_of t u from later to) (each (seen t) refl)) in
    subst (StandsForAtLeast workflow n) (sym (is ∙ ap seen (last_of t u from later to)))
    (record { count = least.count; k = least.k; stands = least.stands; enough = omega (arith, enough, least.enough) }))
    (λ (same : u ≤ t). each image (is ∙ ap seen (same_of t u le same)))
    (cases_lt t u)
  where
    first_of : (t u : ℕ) → disk ≤ t → t < u → u ≤ suc disk → t ≡ disk
    first_of t u a b c = omega arith

    last_of : (t u : ℕ) → disk ≤ t → t < u → u ≤ suc disk → u ≡ suc disk
    last_of t u a b c = omega arith

    same_of : (t u : ℕ) → t ≤ u → u ≤ t → u ≡ t
    same_of t u a b = omega arith

-- an empty disk stands for none
empty_has_none : (n : ℕ) → StandsForAtLeast workflow n (seen 0) → n ≤ 0
empty_has_none n has = of has.count has.enough has.k has.stands
  where
    of : (count : ℕ) → n ≤ count → (k : _) → Stands workflow (seen 0) count k → n ≤ 0
    of count le k (inl nothing) = omega (arith, le, nothing.none)
    of count le k (inr stored) = let none : [] ≡ stored.stands.byte ∷ [] = stored.stands.selector in cc

-- ---- the store is made

pub new_stands : Stands workflow new_files 0 (kept workflow start)
new_stands = forming_stands workflow new_files (empty_whole workflow accepted) own_bodies_fit (inr new_files_stand)

pub opened : Opened Strong workflow start 0 (change 0 1)
opened = record {
  whole = empty_whole workflow accepted;
  began = λ t. tt;
  stood = λ t. nothing_stands;
  crashes = next_call_anew 0 (Prefix workflow start 0 []) (none_stands workflow start 0 [] new_files new_stands);
  receipts_stay = λ list q n. next_stays 0 0 n (empty_has_none n) (record { count = 0; k = kept workflow start; stands = new_stands; enough = omega arith });
  settled = λ q image is. is;
  faults = omega arith;
}

-- ---- what the log ends with, without checkpoints and with one at least each so many entries

abbrev pub log_before : Stood → List Entry → List Listed → Type 0
log_before s before list = entries_of s ≡ before ++ listed_entries list

-- a list behind other entries of the store
log_ends : (every : Option ℕ) (before : List Entry) (list : List Listed) → log_before batch_store before list → LogEndsAs Strong every list batch_files
log_ends every before list is = record {
  stood = batch_store;
  stands = batch_files_stand;
  ends = end_behind every (entries_of batch_store) before (logged modes.Strong (listed_entries list)) (is ∙ ap (λ (es : List Entry). before ++ es) (sym (all_logged (listed_entries list))));
}

-- the store was made at place 0: with checkpoints it needs none for a list that ends before so many entries
pub logged_to : (every : Option ℕ) (first : ℕ) (before : List Entry) (list : List Listed) → log_before batch_store before list → IfSome every (λ n. first + length list < n) → Logged Strong every first list batch_files
logged_to None first before list is few = log_ends None before list is
logged_to (Some n) first before list is few =
    let near : first + length list < 0 + n = omega (arith, few) in (log_ends (Some n) before list is, record { stood = batch_store; stands = batch_files_stand; near = near })

behind_new : (every : Option ℕ) → LogsEndWithLists → LogEndsAs Strong every whole_batch batch_files
behind_new every law = law Strong every new_store batch_store whole_batch batch_files (record { bodies = refl; mode = refl; first = refl; image = refl; entries = refl }) batch_files_stand

begins_near : LogsEndWithLists → NearGenerationsBegin → Logged Strong (Some 6) 0 whole_batch batch_files
begins_near ends law = law Strong 6 0 whole_batch batch_store batch_files (behind_new (Some 6) ends) batch_files_stand (omega arith)

-- ---- the batch runs, and the engine is closed

matches : MatchesCounts workflow start
matches = (matching_stays workflow accepted.structure.streams.wired).starts

pub closed : Closed Strong workflow start 0 whole_batch (change 1 2)
closed = record {
  replays = whole_batch_replays;
  orders = replays_orders workflow accepted.structure.streams.wired start whole_batch matches whole_batch_replays;
  crashes = λ q. next_call 1 (Prefix workflow start 0 whole_batch) (none_stands workflow start 0 whole_batch new_files new_stands) batch_prefix;
  receipts_stay = λ q n. next_stays 1 5 n (λ has. let same = counts_executions files_stand_for_one workflow new_files has.count has.k new_store has.stands new_files_stand in omega (arith, has.enough, same)) batch_at_least;
}

all_receipted : (image : Files) → image ≡ batch_files → StandsForFront workflow start 0 whole_batch 5 image
all_receipted image is = subst (StandsForFront workflow start 0 whole_batch 5) (sym is) (record { some = 5; within = omega arith; enough = omega arith; stands = batch_stands })

settled : (every : Option ℕ) → IfSome every (λ n. 5 < n) → Settled Strong every workflow start 0 whole_batch (change 1 2)
settled every few = record {
  drained = whole_batch_drains;
  receipt = λ q image is. all_receipted image is;
  logged = λ t. logged_to every 0 [] whole_batch refl few;
}

-- the client's entry is below the receipt, which is for all of the list
few : (client : ℕ) → FewUnreceipted client 0 whole_batch 5
few client = record {
  receipted = mine client 0 whole_batch;
  others = [];
  parts = sym (append-nil (mine client 0 whole_batch));
  below = elim (0 == client) as (λ b. AllByRecursion (λ (p : ℕ × Listed). p.0 < 5) (cond b ((0, pushed_entry) ∷ []) [])) [ true ↦ (omega arith, tt) | false ↦ tt ];
  few = omega arith;
}

pub receipted : Receipted Strong workflow start 0 whole_batch 5 (change 1 2)
receipted = record { from_first = omega arith; within = omega arith; receipt = λ q image is. all_receipted image is; few = few }

-- ---- what the client was told

abbrev pub request : Request
request = record { line = 2; client = 0; what = PushAsked 0 (codes "a") 0 ((Int (pos 7) ∷ []) ∷ []) }

abbrev nothing_told : List (List Answer)
nothing_told = replicate 8 []

abbrev pub told : List (List Answer)
told = (ListedAnswer 0 (Done []) ∷ []) ∷ replicate 7 []

pushed : (end : End) → AreAnswered (request ∷ []) 0 (take 1 whole_batch) end told
pushed end =
    answered_request [] 0 [] end nothing_told told request pushed_entry refl
    (pushed_one 0 (ListedAnswer 0 (Done [])) nothing_told told (omega arith) refl) (answered_nothing 0 end 8)

pub answered : (end : End) → AreAnswered (request ∷ []) 0 whole_batch end told
answered end =
    answered_step (request ∷ []) 0 (take 4 whole_batch) end told 3 0 (record { entry = StepEntry 3 0; outcome = Done [] }) refl
    (answered_step (request ∷ []) 0 (take 3 whole_batch) end told 2 0 (record { entry = StepEntry 2 0; outcome = Done [] }) refl
    (answered_step (request ∷ []) 0 (take 2 whole_batch) end told 1 0 (record { entry = StepEntry 1 0; outcome = Aborted (Raised (pos 3)) }) refl
    (answered_step (request ∷ []) 0 (take 1 whole_batch) end told 0 0 (record { entry = StepEntry 0 0; outcome = Done [] }) refl (pushed end))))

abbrev report : End → List ℕ
report end = report_text workflow (request ∷ []) (weave NoMemory (request ∷ []) told) 0 whole_batch start end

reported : (end : End) → Report workflow (request ∷ []) start 0 whole_batch end (report end)
reported end = answered_report workflow (request ∷ []) start 0 whole_batch end NoMemory told (answered end)

-- ---- the laws there, at a limit that the list meets

whole_session : (every : Option ℕ) → IfSome every (λ n. 5 < n) → WholeSessions change → WholeSession Strong workflow (request ∷ []) 0 whole_batch (report Whole) (change 0 2) start
whole_session every few law = law Strong every workflow (request ∷ []) start 0 whole_batch (report Whole) 0 1 2 opened closed (settled every few) (reported Whole)

both_sessions : WholeSessions change → WholeSession Strong workflow (request ∷ []) 0 whole_batch (report Whole) (change 0 2) start × WholeSession Strong workflow (request ∷ []) 0 whole_batch (report Whole) (change 0 2) start
both_sessions law = (whole_session None tt law, whole_session (Some 6) (omega arith) law)

abbrev full_end : End
full_end = stop_at 9 5 5 0 whole_batch 0 0

stopped_session : StoppedSessions change → StoppedSession Strong workflow (request ∷ []) 5 0 whole_batch 9 5 (report full_end) (change 0 2) start
stopped_session law = law Strong workflow (request ∷ []) 5 start 0 whole_batch 9 5 (report full_end) 0 1 2 opened closed receipted (reported full_end)

whole_run : (every : Option ℕ) → IfSome every (λ n. 5 < n) → WholeRuns change → IsWholeRun Strong every 5 workflow (request ∷ []) start 0 whole_batch (report Whole) (change 0 2)
whole_run every few law = law Strong every 5 workflow (request ∷ []) start 0 whole_batch NoMemory told 0 1 2 opened closed (settled every few) (answered Whole) (omega arith)

-- without checkpoints, and with one at least each six entries
run_without : WholeRuns change → IsWholeRun Strong None 5 workflow (request ∷ []) start 0 whole_batch (report Whole) (change 0 2)
run_without = whole_run None tt

run_with : WholeRuns change → IsWholeRun Strong (Some 6) 5 workflow (request ∷ []) start 0 whole_batch (report Whole) (change 0 2)
run_with = whole_run (Some 6) (omega arith)

-- the log has all five entries
log_has_all : (every : Option ℕ) → LogEndsAsStopped Strong every 9 0 whole_batch 5 (change 1 2)
log_has_all every = λ t. inl (record { some = 5; within = omega arith; enough = omega arith; logged = log_ends every [] whole_batch refl })

stopped_run : (every : Option ℕ) → StoppedRuns change → IsStoppedRun Strong every 5 workflow (request ∷ []) start 0 whole_batch 9 5 (report full_end) (change 0 2)
stopped_run every law = law Strong every 5 workflow (request ∷ []) start 0 whole_batch 9 5 NoMemory told 0 1 2 opened closed receipted (log_has_all every) (answered full_end) (omega arith)

-- the disk was empty, and stood for the empty database
from_empty : RunsHoldFromEach change → (every : Option ℕ) (opening : Database) (first : ℕ) → IsWholeRun Strong every 5 workflow (request ∷ []) opening first whole_batch (report Whole) (change 0 2) → 0 ≡ first
from_empty law every opening first run = (law.whole every 5 workflow (request ∷ []) opening first whole_batch (report Whole) 0 2 run tt 0 start nothing_stands).0

-- ---- a second run, of no request, behind the first

abbrev pub behind : Database
behind = after workflow start whole_batch

stood_behind : Stands workflow batch_files 5 (kept workflow behind)
stood_behind = batch_stands

matches_behind : MatchesCounts workflow behind
matches_behind = (matching_stays workflow accepted.structure.streams.wired).stays start whole_batch matches whole_batch_replays

-- no call writes to the disk
stays_so : (P : Files → Type 0) → P batch_files → LeavesOnly (λ disk. disk) images 2 2 P
stays_so P has = no_call (λ disk. disk) images 2 P (λ image is. subst P (sym is) has)

-- all of the first run is found, and nothing is behind it
pub found_again : (image : Files) → image ≡ batch_files → StandsForFront workflow behind 5 [] 5 image
found_again image is = subst (StandsForFront workflow behind 5 [] 5) (sym is) (none_stands workflow behind 5 [] batch_files stood_behind)

pub opened_again : Opened Strong workflow behind 5 (change 2 2)
opened_again = record {
  whole = whole_after workflow accepted start whole_batch (empty_whole workflow accepted);
  began = λ t. tt;
  stood = λ t. stood_behind;
  crashes = λ true'. stays_so (λ image. (image ≡ batch_files) ⊎ Prefix workflow behind 5 [] image) (inl refl);
  receipts_stay = λ list true' n. stays_none (λ disk. disk) images (StandsForAtLeast workflow n) 2 2 (omega arith);
  settled = λ true' image is. is;
  faults = omega arith;
}

pub closed_again : Closed Strong workflow behind 5 [] (change 2 2)
closed_again = record {
  replays = tt;
  orders = replays_orders workflow accepted.structure.streams.wired behind [] matches_behind tt;
  crashes = λ true'. stays_so (Prefix workflow behind 5 []) (found_again batch_files refl);
  receipts_stay = λ true' n. stays_none (λ disk. disk) images (StandsForAtLeast workflow n) 2 2 (omega arith);
}

settled_again : (every : Option ℕ) → IfSome every (λ n. 5 < n) → Settled Strong every workflow behind 5 [] (change 2 2)
settled_again every few = record {
  drained = whole_batch_drains;
  receipt = λ true' image is. found_again image is;
  logged = λ t. logged_to every 5 (entries_of batch_store) [] (sym (append-nil (entries_of batch_store))) few;
}

second : (every : Option ℕ) → IfSome every (λ n. 5 < n) → WholeRuns change → HadList every 5 workflow [] behind 5 [] (change 2 2)
second every few law = inl (
  report_text workflow [] (weave NoMemory [] nothing_told) 5 [] behind Whole,
  law Strong every 5 workflow [] behind 5 [] NoMemory nothing_told 2 2 2 opened_again closed_again (settled_again every few) (answered_nothing 5 Whole 8) (omega arith),
)

-- the one with checkpoints, the other without them
goes_on_behind_all : WholeRuns change → CallsGoOn change → GoesOnBehindAll change workflow start behind 0 5 whole_batch [] 0 2 2
goes_on_behind_all runs law = law.whole None (Some 6) 5 workflow (request ∷ []) [] start behind 0 5 whole_batch [] (report Whole) 0 2 2 tt (run_without runs) (second (Some 6) (omega arith) runs)

goes_on_behind_front : WholeRuns change → StoppedRuns change → CallsGoOn change → GoesOnBehindFront change workflow start behind 0 5 whole_batch [] 5 0 2 2
goes_on_behind_front runs stops law = law.stopped (Some 6) None 5 workflow (request ∷ []) [] start behind 0 5 whole_batch [] 9 5 (report full_end) 0 2 2 tt (stopped_run (Some 6) stops) (second None tt runs)

-- while the store is made nothing has run
pub nothing : NothingRan modes.Strong workflow (change 0 1)
nothing = next_call_anew 0 (λ image. IsEmpty (seen 0) × Stands workflow image 0 (kept workflow start)) (refl, new_stands)

stands_still : NothingRanStands kind → AtEachMoment (change 0 1) (λ image. Stands workflow image 0 (kept workflow start))
stands_still law = law workflow start 0 0 1 nothing_stands nothing

-- a call that reached no disk
uncalled : UncalledIsOnlyRead kind → OnlyRead (change 1 1)
uncalled law = law 1 1 refl

-- nothing was pending before the batch
quiet : QuietLeaves kind (Prefix workflow start 0 whole_batch) → LeavesOnly (λ disk. disk) images 1 2 (Prefix workflow start 0 whole_batch)
quiet law = law 1 2 tt (settled_so 1) (none_stands workflow start 0 whole_batch new_files new_stands) (next_call_anew 1 (Prefix workflow start 0 whole_batch) batch_prefix)

stays : QuietStays kind → LeavesOnly (λ disk. disk) images 1 1 (λ image. image ≡ seen 1)
stays law = law 1 1 tt (settled_so 1) (λ true'. no_call (λ disk. disk) images 1 (λ image. image ≡ seen 1) (λ image is. is))

-- ---- what was owed

rises : (client : ℕ) → Rising (filter_map (λ (l : Listed). client_index client l.entry) whole_batch)
rises client = elim (0 == client) as (λ b. Rising (cons_option (cond b (Some 0) None) [])) [ true ↦ tt | false ↦ tt ]

lists : ListsAsked workflow start (request ∷ []) whole_batch
lists = record { replays = whole_batch_replays; asked = ((0, omega arith, refl), (tt, (tt, (tt, (tt, tt))))); in_turn = rises }

-- the push and four steps, which is just what the list has
owes_five : owed workflow start (request ∷ []) ≡ 5
owes_five = refl

enough : 5 + pending_steps workflow (after workflow start whole_batch) + outside (request ∷ []) whole_batch ≤ 5
enough = owed_is_enough workflow accepted start (empty_whole workflow accepted).in_step (request ∷ []) whole_batch lists

none_left : FullListsHaveAll → (outside (request ∷ []) whole_batch ≡ 0) × NoneReady workflow (after workflow start whole_batch)
none_left law = law workflow accepted start (empty_whole workflow accepted).in_step (request ∷ []) whole_batch lists (omega (arith, owes_five))

-- ---- a body that is installed owes one execution, and wakes no step

abbrev install : Request
install = record { line = 2; client = 0; what = InstallAsked 0 [] }

abbrev installs : List Listed
installs = record { entry = Install 0 0 0 []; outcome = Done [] } ∷ []

install_rises : (client : ℕ) → Rising (filter_map (λ (l : Listed). client_index client l.entry) installs)
install_rises client = elim (0 == client) as (λ b. Rising (cons_option (cond b (Some 0) None) [])) [ true ↦ tt | false ↦ tt ]

install_runs : Replays workflow start installs
unfolding apply
install_runs = (refl, tt)

owes_one : owed workflow start (install ∷ []) ≡ 1
owes_one = refl

install_enough : 1 + pending_steps workflow (after workflow start installs) + outside (install ∷ []) installs ≤ 1
install_enough = owed_is_enough workflow accepted start (empty_whole workflow accepted).in_step (install ∷ []) installs
    (record { replays = install_runs; asked = ((0, omega arith, refl), tt); in_turn = install_rises })
