-- The laws of weak lists where a batch goes through the workflow that splits and joins, and is pushed again before its steps.
use Rattle.std.proofs.Common.{◌≡◌, inr, ℕ, ◌-◌, ◌^◌, pos, codes, List, [], ◌∷◌, length, ap, arith, refl, subst, Some, unwrap_or}
use Rattle.std.specs.FinMap as finmap
use Rattle.std.specs.FinMap.{get-insert}
use Rattle.std.proofs.lemmas.Cmp.{nat_list_cmp_total}
use Rattle.std.specs.Option.{option_map}
use Rattle.std.specs.declared.option.Option.{Option}
use Rattle.ss_value.specs.declared.value.Value.TheVariants.{Int}
use Rattle.ss_value.specs.Rows.{Rows}
use Rattle.ss_model.specs.declared.entry.Entry.{Entry}
use Rattle.ss_model.specs.declared.entry.Entry.TheVariants.{Push, Step as StepEntry}
use Rattle.ss_model.specs.declared.entry.Listed.{Listed}
use Rattle.ss_model.specs.declared.entry.Outcome.{Outcome}
use Rattle.ss_model.specs.declared.entry.Outcome.TheVariants.{Done, Duplicate, Aborted}
use Rattle.ss_model.specs.declared.entry.Reason.TheVariants.{Raised}
use Rattle.ss_model.specs.Database.{Database, Applied, apply, empty_database}
use Rattle.ss_model.specs.InStep.{IsInStep}
use Rattle.ss_model.specs.Replays.{Replays}
use Rattle.ss_model.specs.Settling.{Settles, IsWeakList, kept}
use Rattle.ss_model_laws.proofs.CallerLemmas.{accepted, workflow, empty_whole, in_step_after}
use Rattle.ss_model_laws.proofs.worked.WorkflowRun as run
use Rattle.ss_model.specs.Asked.{asked_of, listed_entries, pushes_of}
use Rattle.ss_weak_lists.specs.Pushes.{SamePushes, PushesNeedNumbers}
use Rattle.ss_weak_lists.specs.Stops.{LoopsPassLast, PassesLast, ReplaysWeakly, StopsBehind, WeakStopsOnce}
use Rattle.ss_weak_lists.specs.WeakLists.{KeptCarriesWeak, RecoversWeakly, RunsRecoverWeakly, WeakListsGrow, WeakListsHoldAsked}

abbrev rows : ℕ → Rows
rows n = (Int (pos n) ∷ []) ∷ []

abbrev start : Database
start = empty_database workflow

-- the same push, made again
abbrev pub again : Entry
again = Push 0 1 0 (codes "a") 0 (rows 7)

abbrev steps : List Entry
steps = StepEntry 0 0 ∷ StepEntry 1 0 ∷ StepEntry 2 0 ∷ StepEntry 3 0 ∷ []

-- it is a duplicate before the steps of the batch, and behind them
again_early : apply workflow run.pushed again ≡ Some (record { db = run.pushed; outcome = Duplicate 1; emitted = [] })
unfolding apply
again_early = rw (get-insert {X = ℕ} nat_list_cmp_total finmap.empty (codes "a") 1 (codes "a")) refl

again_late : apply workflow run.joined again ≡ Some (record { db = run.joined; outcome = Duplicate 1; emitted = [] })
unfolding apply
again_late = rw (get-insert {X = ℕ} nat_list_cmp_total finmap.empty (codes "a") 1 (codes "a")) refl

-- ---- a weak list, made entry by entry: the second push is behind the steps of the first

abbrev pub weak : List Entry
weak = run.push ∷ StepEntry 0 0 ∷ StepEntry 1 0 ∷ StepEntry 2 0 ∷ StepEntry 3 0 ∷ again ∷ []

none_yet : IsWeakList workflow start [] []
none_yet = refl

settled : Settles workflow run.pushed steps
settled = run.settles

pub one_push : WeakListsGrow → IsWeakList workflow start (run.push ∷ []) (run.push ∷ steps)
one_push law = law workflow start [] [] run.push steps none_yet (rw run.pushes settled)

pub two_pushes : WeakListsGrow → IsWeakList workflow start (run.push ∷ again ∷ []) weak
two_pushes law =
    law workflow start (run.push ∷ []) (run.push ∷ steps) again [] (one_push law) (rw run.pushes (rw run.splits (rw run.raises (rw run.adds (rw run.joins (rw again_late refl))))))

-- of what clients asked for it holds these two
holds_two : WeakListsGrow → WeakListsHoldAsked → asked_of weak ≡ run.push ∷ again ∷ []
holds_two grow law = law workflow start (run.push ∷ again ∷ []) weak (tt, (tt, tt)) (two_pushes grow)

-- ---- a run that has the second push before the steps, and is recovered to the weak list

abbrev listed : Entry → Outcome → Listed
listed e outcome = record { entry = e; outcome = outcome }

abbrev early : List Listed
early =
    listed run.push (Done []) ∷ listed again (Duplicate 1) ∷ listed (StepEntry 0 0) (Done []) ∷ listed (StepEntry 1 0) (Aborted (Raised (pos 3)))
    ∷ listed (StepEntry 2 0) (Done []) ∷ listed (StepEntry 3 0) (Done []) ∷ []

abbrev late : List Listed
late =
    listed run.push (Done []) ∷ listed (StepEntry 0 0) (Done []) ∷ listed (StepEntry 1 0) (Aborted (Raised (pos 3)))
    ∷ listed (StepEntry 2 0) (Done []) ∷ listed (StepEntry 3 0) (Done []) ∷ listed again (Duplicate 1) ∷ []

early_replays : Replays workflow start early
early_replays = rw run.pushes (refl, rw again_early (refl, rw run.splits (refl, rw run.raises (refl, rw run.adds (refl, rw run.joins (refl, tt))))))

late_replays : Replays workflow start late
late_replays = rw run.pushes (refl, rw run.splits (refl, rw run.raises (refl, rw run.adds (refl, rw run.joins (refl, rw again_late (refl, tt))))))

-- in both the pushes come to the same
pub same_pushes : PushesNeedNumbers → SamePushes workflow start start early late
same_pushes law = law workflow start start early late refl early_replays late_replays refl

told : PushesNeedNumbers → pushes_of early ≡ listed run.push (Done []) ∷ listed again (Duplicate 1) ∷ []
told law = (same_pushes law).outcomes

-- clients asked for two of the six
two_asked : length (asked_of (listed_entries early)) ≡ 2
two_asked = refl

pub recovered : RunsRecoverWeakly → RecoversWeakly workflow start early
recovered law = law workflow accepted start (empty_whole workflow accepted).in_step early early_replays

-- and what it is recovered to is the weak list
recovered_to : (law : RunsRecoverWeakly) → WeakListsGrow → weak ≡ listed_entries (recovered law).again
recovered_to law grow = (recovered law).only weak (two_pushes grow)

-- ---- behind the steps it doesn't matter what was in the batches that all have taken

abbrev other : Database
other = record run.joined { streams = (rows 8 ∷ []) ∷ (rows 8 ∷ []) ∷ (rows 8 ∷ []) ∷ ([] ∷ []) ∷ (rows 28 ∷ []) ∷ [] }

same_kept : kept workflow run.joined ≡ kept workflow other
unfolding kept
same_kept = refl

again_alone : IsWeakList workflow run.joined (again ∷ []) (again ∷ [])
again_alone = ([], [], refl, refl, rw again_late refl)

pub carried : KeptCarriesWeak → IsWeakList workflow other (again ∷ []) (again ∷ [])
carried law = (law workflow run.joined other same_kept).weak (again ∷ []) (again ∷ []) again_alone

-- ---- where a weak replay stops: from the first place on both pushes replay

pub both_replay : WeakListsGrow → ReplaysWeakly workflow start 0 (run.push ∷ again ∷ [])
both_replay grow = record { list = late; is_weak = two_pushes grow; replays = late_replays; few = omega arith }

-- where four places are left the first push has one, and three of its four steps
pub stops : StopsBehind workflow start (2 ^ 60 - 4) (run.push ∷ again ∷ []) 0
stops = record {
  before = record { list = []; is_weak = none_yet; replays = tt; few = omega arith };
  entry = run.push;
  there = refl;
  stops = inr (record { steps = steps; settles = rw run.pushes settled; past = omega arith });
}

pub stops_only_there : WeakStopsOnce → (n : ℕ) → StopsBehind workflow start (2 ^ 60 - 4) (run.push ∷ again ∷ []) n → n ≡ 0
stops_only_there law n other = (law workflow start (2 ^ 60 - 4) (run.push ∷ again ∷ [])).one_stop n 0 other stops

pushed_in_step : IsInStep workflow run.pushed
pushed_in_step =
    let next = in_step_after workflow accepted.structure.streams.wired start (listed run.push (Done []) ∷ []) (empty_whole workflow accepted).in_step in
    subst (IsInStep workflow) (ap (λ (o : Option Applied). unwrap_or (option_map (λ (a : Applied). a.db) o) start) run.pushes) next

-- a loop that has run one of these steps at the last place sees it by the next one
pub passes : LoopsPassLast → PassesLast workflow run.pushed (2 ^ 60 - 1)
passes law = law workflow accepted run.pushed pushed_in_step (StepEntry 0 0 ∷ []) (0, refl, refl, tt) 1 (rw run.splits refl) (2 ^ 60 - 1) (omega arith)
