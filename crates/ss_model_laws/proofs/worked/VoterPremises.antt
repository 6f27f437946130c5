-- Laws at the voting show: one vote through it, and one that comes too early.
use Rattle.std.proofs.Common.{◌≡◌, ◌≤◌, ◌<◌, ◌+◌, ◌∙◌, ◌⊎◌, ℕ, zero, suc, pos, codes, List, [], ◌∷◌, map, length, get_or, true, refl, arith, Some, None}
use Rattle.std.specs.FinMap as finmap
use Rattle.std.specs.FinMap.{get-empty}
use Rattle.std.specs.Ordering.{nat_cmp}
use Rattle.std.specs.Cmp.Lexicographic.{slice_cmp}
use Rattle.ss_value.specs.declared.value.Value.TheVariants.{Int, Text}
use Rattle.ss_value.specs.Rows.{Rows}
use Rattle.ss_sql_trees.specs.declared.typed.SourceId.{SourceId}
use Rattle.ss_model.specs.declared.entry.Entry.TheVariants.{Step as StepEntry}
use Rattle.ss_model.specs.declared.entry.Listed.{Listed}
use Rattle.ss_model.specs.declared.entry.Outcome.TheVariants.{Done, Aborted}
use Rattle.ss_model.specs.declared.entry.Reason.TheVariants.{Raised}
use Rattle.ss_model.specs.Results.{WhenOk}
use Rattle.ss_model.specs.Contents.{table_at, visible_table}
use Rattle.ss_model.specs.Statements.{Context, cascade_to_depth, trigger_cascade}
use Rattle.ss_model.specs.Queries.{query_result, query_rows}
use Rattle.ss_model.specs.Bodies.{run_body}
use Rattle.ss_model.specs.Database.{Database, Applied, apply, run_procedure, stream_batches}
use Rattle.ss_model.specs.Replays.{after}
use Rattle.ss_model.specs.Orders.{Orders}
use Rattle.ss_model.specs.Partitions.{touches}
use Rattle.ss_model.specs.Settling.{kept, CarriedByKept, pending_steps}
use Rattle.ss_model.specs.Aborts.{AbortLeaves}
use Rattle.ss_model.specs.Advances.{StepMovesOn}
use Rattle.ss_model.specs.Typing.{schemas_of, input_schema}
use Rattle.ss_model.specs.Batches.{emitted_batches, BatchesJoin, StreamGrows}
use Rattle.ss_model.specs.Wakes.{wakes, IsStepOf}
use Rattle.ss_model.specs.WholeDatabase.{WholeDatabase, HadAtMost}
use Rattle.ss_model.specs.SoundRuns.{FitAll, WholeResult}
use Rattle.ss_model.specs.Settled.{AtRest, SettlesOnce, WeakListOnce, ReplaysWithOutcomes}
use Rattle.ss_model.specs.AcceptedBodies.{AcceptedFrame, OwnBodies, OtherBodies}
use Rattle.ss_model.proofs.CallerLemmas.{at_lit, at_col, literal_value, column_meaning, param_value, retain_all}
use Rattle.ss_model_laws.proofs.Aborted.{abort_leaves}
use Rattle.ss_model_laws.proofs.Advanced.{steps_move}
use Rattle.ss_model_laws.proofs.Orders.{replays_orders, matching_stays}
use Rattle.ss_model_laws.proofs.Batches.{batches_join, stream_grows}
use Rattle.ss_model_laws.proofs.BodySound.{run_whole}
use Rattle.ss_model_laws.proofs.Depth.{windows_are_enough}
use Rattle.ss_model_laws.proofs.KeptLists.{kept_carries}
use Rattle.ss_model_laws.proofs.QuerySound.{query_sound}
use Rattle.ss_model_laws.proofs.TouchedRun.{touched_run}
use Rattle.ss_model_laws.proofs.Wakes.{ready_is_woken}
use Rattle.ss_model_laws.proofs.WholeDatabase.{empty_whole, stays_whole, whole_after, had_at_most}
use Rattle.ss_model_laws.proofs.Settled.{at_rest, lower_pending, settles_once, weak_once}
use Rattle.ss_model_laws.proofs.AcceptedBodies.{in_parts}
use Rattle.ss_model_laws.proofs.worked.Voter.{voter, accepted, validates, leads, top_three, board}
use Rattle.ss_model_laws.proofs.worked.VoterRun as run
use Rattle.ss_model_laws.proofs.worked.VoterRun.{start, voted, entries_of_none}

-- ---- orders, parts and kept

orders : Orders voter start run.one_vote
orders = replays_orders voter accepted.structure.streams.wired start run.one_vote (matching_stays voter accepted.structure.streams.wired).starts run.one_vote_replays

touches_inside : (p : ℕ) → touches voter 3 (StepEntry 3 0) p ≡ true → p < 3
touches_inside = touched_run voter 3 (omega arith) (StepEntry 3 0)

-- of five votes that the window has had the first is not seen again
abbrev trends : List Rows → Database
trends units = record start { contents = record start.contents { windows = units ∷ [] } }

abbrev unit : ℕ → Rows
unit n = (Int (pos n) ∷ []) ∷ []

equal_kept : kept voter (trends (unit 1 ∷ unit 2 ∷ unit 1 ∷ unit 3 ∷ unit 1 ∷ [])) ≡ kept voter (trends ([] ∷ unit 2 ∷ unit 1 ∷ unit 3 ∷ unit 1 ∷ []))
unfolding kept
equal_kept = refl

carries : (list : List Listed) → CarriedByKept voter (trends (unit 1 ∷ unit 2 ∷ unit 1 ∷ unit 3 ∷ unit 1 ∷ [])) (trends ([] ∷ unit 2 ∷ unit 1 ∷ unit 3 ∷ unit 1 ∷ [])) list
carries list = kept_carries voter _ _ equal_kept list

-- ---- the leaderboard's trigger, and the three of most votes

abbrev context : Context
context = record { catalog = voter; procedure = 3; args = []; batches = []; inner = []; split_value = None }

deep_enough : cascade_to_depth 4 context 0 ≡ trigger_cascade context 0
deep_enough = windows_are_enough voter accepted context refl 0 4 (omega arith) (omega arith)

abbrev two_contestants : SourceId → Rows
two_contestants s = (Int (pos 1) ∷ Int (pos 1) ∷ Text (codes "ann") ∷ Int (pos 2) ∷ []) ∷ (Int (pos 2) ∷ Int (pos 1) ∷ Text (codes "bo") ∷ Int (pos 0) ∷ []) ∷ []

top_three_fit : WhenOk (FitAll board.schema) (query_rows two_contestants [] top_three)
top_three_fit = query_sound (schemas_of voter leads.inputs [] []) two_contestants [] top_three board.schema refl (refl, (refl, tt)) tt (simp (at_lit, at_col)) (simp (at_lit, at_col))

-- ---- whole databases and runs

whole_begun : WholeDatabase voter run.begun
whole_begun = stays_whole voter accepted start run.begin _ (empty_whole voter accepted) run.begins

whole_voted : WholeDatabase voter voted
whole_voted = stays_whole voter accepted run.added run.vote run.voting (stays_whole voter accepted run.begun run.add _ whole_begun run.adds) run.casts

whole_behind : WholeDatabase voter (after voter start run.one_vote)
whole_behind = whole_after voter accepted start run.one_vote (empty_whole voter accepted)

few_batches : HadAtMost 6 (after voter start run.one_vote)
few_batches = had_at_most voter accepted start (empty_whole voter accepted) 0 none run.one_vote
  where
    none : (s : ℕ) → length (stream_batches start s) ≤ 0
    none zero = omega arith
    none (suc zero) = omega arith
    none (suc (suc zero)) = omega arith
    none (suc (suc (suc s))) = omega arith

votes_fit : (i : ℕ) → FitAll (input_schema voter validates.inputs [] i) (get_or (run.votes ∷ []) i [])
votes_fit zero = (refl, tt)
votes_fit (suc i) = tt

whole_run : WholeResult voter (run_procedure voter 2 validates [] (run.votes ∷ []) voted.contents)
whole_run = run_whole voter accepted.typed accepted.in_scope 2 validates [] (run.votes ∷ []) voted.contents refl refl refl votes_fit whole_voted.contents

-- ---- the vote's step brings the leaderboard a batch, and wakes it

joins : BatchesJoin voter voted (StepEntry 2 0) run.validating
joins = batches_join voter voted (record { counts = refl; streams = refl }) (StepEntry 2 0) run.validating run.validates

one_output : map (λ b. b.stream) (emitted_batches voter (StepEntry 2 0) run.validating) ≡ 1 ∷ []
one_output = refl

stays : (s : ℕ) → StreamGrows voter start run.one_vote s
stays s = stream_grows voter start run.one_vote s

woken : (wakes voter (StepEntry 2 0) 3 ≡ true) ⊎ IsStepOf 3 (StepEntry 2 0)
woken = ready_is_woken voter voted (record { counts = refl; streams = refl }) (StepEntry 2 0) run.validating run.validates 3 refl refl

moves : StepMovesOn voter voted 2 0 run.validating
moves = steps_move voter voted 2 0 run.validating (record { counts = refl; streams = refl }) run.validates

-- ---- it settles in three steps

rests : AtRest voter voted
rests = at_rest voter accepted voted whole_voted.in_step

settles_so : SettlesOnce voter voted
settles_so = settles_once voter accepted voted whole_voted.in_step

three_pending : pending_steps voter voted ≡ 3
three_pending = refl

three_steps : length settles_so.list ≡ 3
three_steps = settles_so.many ∙ three_pending

in_this_order : StepEntry 2 0 ∷ StepEntry 3 0 ∷ StepEntry 4 0 ∷ [] ≡ settles_so.list
in_this_order = settles_so.only _ run.settles

one_less : pending_steps voter run.validated + 1 ≡ pending_steps voter voted
one_less = lower_pending voter accepted voted whole_voted.in_step 2 0 run.validating run.validates

weak : WeakListOnce voter start (run.begin ∷ run.add ∷ run.vote ∷ [])
weak = weak_once voter accepted (run.begin ∷ run.add ∷ run.vote ∷ []) start (empty_whole voter accepted).in_step

weak_replays : ReplaysWithOutcomes voter start weak.list
weak_replays = weak.replays ((tt, refl), ((tt, refl), ((tt, refl), tt)))

-- ---- before anybody takes part a vote is refused, and its procedure emits an empty batch

abbrev early : Database
early = record run.begun { streams = (run.votes ∷ []) ∷ [] ∷ [] ∷ []; next_numbers = finmap.insert finmap.empty (codes "a") 1 ∷ finmap.empty ∷ finmap.empty ∷ [] }

comes_early : apply voter run.begun run.vote ≡ Some (record { db = early; outcome = Done []; emitted = [] })
unfolding apply
comes_early = rw (get-empty (slice_cmp nat_cmp) (codes "a")) refl

abbrev refusing : Applied
refusing = record {
  db = record early { streams = (run.votes ∷ []) ∷ ([] ∷ []) ∷ [] ∷ []; counts = 0 ∷ 0 ∷ 1 ∷ 0 ∷ 0 ∷ [] };
  outcome = Aborted (Raised (pos 1));
  emitted = [] ∷ [] ∷ [] ∷ [];
}

refuses : apply voter early (StepEntry 2 0) ≡ Some refusing
unfolding apply run_body query_result table_at visible_table
refuses = simp (retain_all, entries_of_none, literal_value, column_meaning, param_value)

leaves : AbortLeaves early (StepEntry 2 0) refusing
leaves = abort_leaves voter early (StepEntry 2 0) refusing refuses tt

joins_empty : BatchesJoin voter early (StepEntry 2 0) refusing
joins_empty = batches_join voter early (record { counts = refl; streams = refl }) (StepEntry 2 0) refusing refuses

-- ---- bodies

parts_of_accepted : AcceptedFrame voter × (OwnBodies voter × OtherBodies voter)
parts_of_accepted = (in_parts voter).0 accepted
