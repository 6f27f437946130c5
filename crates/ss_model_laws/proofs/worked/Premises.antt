-- Each law at a catalogue that meets its premises.
use Rattle.std.proofs.Common.{◌≡◌, ◌≤◌, ◌⊎◌, ◌<◌, ◌+◌, ◌∙◌, ℕ, zero, suc, pos, List, [], ◌∷◌, map, length, get_or, slice_get, subst, true, false, refl, sym, ap, arith, Some, None}
use Rattle.std.specs.List.{list_any}
use Rattle.ss_value.specs.declared.value.Value.TheVariants.{Int}
use Rattle.ss_value.specs.Rows.{Row, Rows}
use Rattle.ss_sql_trees.specs.declared.typed.BinaryOp.TheVariants.{Add}
use Rattle.ss_sql_trees.specs.declared.typed.Expr.{Expr}
use Rattle.ss_sql_trees.specs.declared.typed.Expr.TheVariants.{Param, Col, Binary}
use Rattle.ss_sql_trees.specs.declared.typed.SelectItem.TheVariants.{Plain}
use Rattle.ss_sql_trees.specs.declared.typed.SourceId.TheVariants.{Batch as FromBatch}
use Rattle.ss_model.specs.declared.entry.Entry.{Entry}
use Rattle.ss_model.specs.declared.entry.Entry.TheVariants.{Call, Push, Step as StepEntry}
use Rattle.ss_model.specs.declared.catalog.Step.{Step}
use Rattle.ss_model.specs.declared.catalog.Step.TheVariants.{Emit}
use Rattle.ss_model.specs.declared.catalog.WindowDef.{WindowDef}
use Rattle.ss_model.specs.declared.catalog.Procedure.{Procedure}
use Rattle.ss_model.specs.Contents.{table_at, window_units}
use Rattle.ss_model.specs.declared.entry.Listed.{Listed}
use Rattle.ss_model.specs.declared.entry.Outcome.TheVariants.{Aborted}
use Rattle.ss_model.specs.declared.entry.Reason.TheVariants.{KeyTaken}
use Rattle.ss_model.specs.Statements.{Context, cascade_to_depth, trigger_cascade}
use Rattle.ss_model.specs.Database.{Database, Applied, apply, empty_database, fits_entry, run_procedure, stream_batches, emits_to, adds_to}
use Rattle.ss_model.specs.CatalogForm.{body_within_limit}
use Rattle.ss_model.specs.Replays.{after, GoesOn}
use Rattle.ss_model.specs.Orders.{Orders, MatchesCounts, procedure_has}
use Rattle.ss_model.specs.Partitions.{touches}
use Rattle.ss_model.specs.Settling.{kept, SameKeptApplied, CarriedByKept, pending_steps, Settles}
use Rattle.ss_model.specs.Batches.{emitted_batches, BatchesJoin, GrowsByOne}
use Rattle.ss_model.specs.WholeDatabase.{WholeWindow, WholeDatabase, HadAtMost}
use Rattle.ss_model.specs.SoundRuns.{WholeResult}
use Rattle.ss_model.specs.KeptRuns.{SameKept}
use Rattle.ss_model.specs.InStep.{IsInStep}
use Rattle.ss_model.specs.Wakes.{wakes, IsStepOf}
use Rattle.ss_model.specs.Settled.{AtRest, NextIsReady, SettlesOnce, SettlesOn, WeakListOnce, ReplaysWithOutcomes}
use Rattle.ss_model.specs.AcceptedBodies.{with_bodies, AcceptedBodies, AcceptedFrame, OwnBodies, OtherBodies, BodiesMayChange}
use Rattle.ss_model.specs.Spares.{AcceptedBody}
use Rattle.ss_model.specs.BodiesAside.{SameBodiesAside}
use Rattle.ss_sql_trees.specs.WellTyped.{IntType, expr_type}
use Rattle.ss_model.specs.parts.Locality.{BodyResultRelated, EntryIsLocal, RunIsLocal, UsesTouched, touched_keys, touched_windows}
use Rattle.ss_model.specs.parts.ListLocality.{IsApart, ListIsLocal}
use Rattle.ss_model.specs.Aborts.{AbortLeaves}
use Rattle.ss_model.specs.Advances.{StepMovesOn}
use Rattle.ss_model.specs.Shows.{WindowShows}
use Rattle.ss_model.specs.Soundness.{TypingIsSound}
use Rattle.ss_model.proofs.CallerLemmas.{at_lit, at_param, at_col, at_binary, number, select, applied_fits, fitting_applies, goes_on}
use Rattle.ss_model_laws.proofs.Orders.{replays_orders, matching_stays}
use Rattle.ss_model_kept.proofs.CallerLemmas.{run_is_local, from_kept, contents_kept, kept_is_enough}
use Rattle.ss_model_laws.proofs.Homes.{uses_touched}
use Rattle.ss_model_laws.proofs.EntryLocality.{entry_is_local}
use Rattle.ss_model_laws.proofs.ListLocality.{list_is_local}
use Rattle.ss_model_laws.proofs.Depth.{windows_are_enough}
use Rattle.ss_model_laws.proofs.Aborted.{abort_leaves}
use Rattle.ss_model_laws.proofs.Advanced.{steps_move}
use Rattle.ss_model_laws.proofs.Slides.{window_shows}
use Rattle.ss_model_laws.proofs.Sound.{typing_is_sound}
use Rattle.ss_model_laws.proofs.TouchedRun.{touched_run}
use Rattle.ss_model_laws.proofs.KeptLists.{kept_carries}
use Rattle.ss_model_laws.proofs.Batches.{batches_join, grows_by_one}
use Rattle.ss_model_laws.proofs.InStep.{empty_in_step, in_step_next}
use Rattle.ss_model_laws.proofs.Wakes.{ready_is_woken}
use Rattle.ss_model_laws.proofs.BodySound.{run_whole}
use Rattle.ss_lemmas.proofs.Bools.{some_same}
use Rattle.ss_lemmas.proofs.Numbers.{eqb_is}
use Rattle.ss_model_laws.proofs.WholeDatabase.{kept_is_whole, empty_whole, stays_whole, whole_after, had_at_most}
use Rattle.ss_model_laws.proofs.Settled.{at_rest, next_is_ready, lower_pending, loop_settles, settles_once, weak_once}
use Rattle.ss_model_laws.proofs.AcceptedBodies.{in_parts}
use Rattle.ss_model_laws.proofs.ChangedBodies.{may_change}
use Rattle.ss_model_laws.proofs.BodiesAside.{bodies_aside}
use Rattle.ss_model.proofs.Accounts as accounts
use Rattle.ss_model.proofs.ByAccount as split
use Rattle.ss_model.proofs.SlidingSeen as sliding
use Rattle.ss_model.proofs.SlidingRun as run
use Rattle.ss_model_laws.proofs.worked.Workflow as flow
use Rattle.ss_model_laws.proofs.worked.WorkflowRun as flow_run
use Rattle.ss_model_laws.proofs.worked.Voter as show
use Rattle.ss_model_laws.proofs.worked.Nested as nested

-- an entry that has a value fits, and one that fits has a value
fits : fits_entry accounts.accounts (accounts.put_call 0 1 5) ≡ true
fits = applied_fits accounts.accounts (empty_database accounts.accounts) (accounts.put_call 0 1 5) accounts.opening accounts.opens

applies : (a : Applied) × (apply accounts.accounts (empty_database accounts.accounts) (accounts.put_call 0 1 5) ≡ Some a)
applies = fitting_applies accounts.accounts (empty_database accounts.accounts) (accounts.put_call 0 1 5) refl refl

-- a list goes on
goes : GoesOn accounts.accounts (empty_database accounts.accounts) accounts.three_calls []
goes = goes_on accounts.accounts (empty_database accounts.accounts) accounts.three_calls []

-- a list that replays has the orders, on a database that matches its counts
matches : MatchesCounts sliding.sliding_seen (empty_database sliding.sliding_seen)
matches = (matching_stays sliding.sliding_seen sliding.accepted.structure.streams.wired).starts

orders : Orders sliding.sliding_seen (empty_database sliding.sliding_seen) run.push_and_step
orders = replays_orders sliding.sliding_seen sliding.accepted.structure.streams.wired (empty_database sliding.sliding_seen) run.push_and_step matches run.push_and_step_replay

stays_matches : MatchesCounts sliding.sliding_seen (after sliding.sliding_seen (empty_database sliding.sliding_seen) run.push_and_step)
stays_matches = (matching_stays sliding.sliding_seen sliding.accepted.structure.streams.wired).stays (empty_database sliding.sliding_seen) run.push_and_step matches run.push_and_step_replay

-- and through a workflow, where one branch aborts
matches_flow : MatchesCounts flow.workflow (empty_database flow.workflow)
matches_flow = (matching_stays flow.workflow flow.accepted.structure.streams.wired).starts

flow_orders : Orders flow.workflow (empty_database flow.workflow) flow_run.whole_batch
flow_orders = replays_orders flow.workflow flow.accepted.structure.streams.wired (empty_database flow.workflow) flow_run.whole_batch matches_flow flow_run.whole_batch_replays

flow_stays_matches : MatchesCounts flow.workflow (after flow.workflow (empty_database flow.workflow) flow_run.whole_batch)
flow_stays_matches = (matching_stays flow.workflow flow.accepted.structure.streams.wired).stays (empty_database flow.workflow) flow_run.whole_batch matches_flow flow_run.whole_batch_replays

-- a procedure uses what it touches, and runs and entries are local
uses : UsesTouched split.by_account 8 0 split.opens
uses = uses_touched split.by_account split.accepted 8 (omega arith) 0 split.opens refl

local_run : (args : Row) → RunIsLocal split.by_account 0 split.opens args [] (touched_keys split.by_account 8 split.opens args) (touched_windows split.by_account 8 split.opens args)
local_run args = run_is_local split.by_account 0 split.opens args [] (touched_keys split.by_account 8 split.opens args) (touched_windows split.by_account 8 split.opens args) (uses.uses args [])

local_entry : (args : Row) → EntryIsLocal split.by_account 8 (Call 0 0 0 args)
local_entry args = entry_is_local split.by_account split.accepted 8 (omega arith) (Call 0 0 0 args)

-- under `all`, and with windows and triggers
local_move : (args : Row) → EntryIsLocal split.by_account 8 (Call 0 0 1 args)
local_move args = entry_is_local split.by_account split.accepted 8 (omega arith) (Call 0 0 1 args)

local_step : (q r : ℕ) → EntryIsLocal show.voter 3 (StepEntry q r)
local_step q r = entry_is_local show.voter show.accepted 3 (omega arith) (StepEntry q r)

local_push : (rows : Rows) → EntryIsLocal show.voter 3 (Push 0 0 0 [] 0 rows)
local_push rows = entry_is_local show.voter show.accepted 3 (omega arith) (Push 0 0 0 [] 0 rows)

-- two accounts on two partitions: past the call for the one, that for the other is carried
abbrev first_account : List Listed
first_account = record { entry = Call 0 0 0 (Int (pos 1) ∷ Int (pos 5) ∷ []); outcome = Aborted (KeyTaken 0) } ∷ []

apart : IsApart split.by_account 8 first_account (Call 1 0 0 (Int (pos 2) ∷ Int (pos 5) ∷ []))
apart p t = (subst (λ q. touches split.by_account 8 (Call 0 0 0 (Int (pos 1) ∷ Int (pos 5) ∷ [])) q ≡ false) (sym (eqb_is p 2 t)) refl, tt)

local_list : (db : Database) → ListIsLocal split.by_account 8 db first_account
local_list db = list_is_local split.by_account split.accepted 8 (omega arith) db first_account

-- two databases that differ in units that no slide shows again
abbrev of_units : List Rows → Database
of_units units = record (empty_database sliding.sliding_seen) { contents = record (empty_database sliding.sliding_seen).contents { windows = units ∷ [] } }

abbrev unit : ℕ → Rows
unit n = (Int (pos n) ∷ []) ∷ []

equal_kept : kept sliding.sliding_seen (of_units (unit 1 ∷ unit 2 ∷ unit 3 ∷ unit 4 ∷ unit 5 ∷ [])) ≡ kept sliding.sliding_seen (of_units (unit 6 ∷ unit 7 ∷ unit 3 ∷ unit 4 ∷ unit 5 ∷ []))
unfolding kept
equal_kept = refl

same_kept : (e : Entry) → SameKeptApplied sliding.sliding_seen (apply sliding.sliding_seen (of_units (unit 1 ∷ unit 2 ∷ unit 3 ∷ unit 4 ∷ unit 5 ∷ [])) e) (apply sliding.sliding_seen (of_units (unit 6 ∷ unit 7 ∷ unit 3 ∷ unit 4 ∷ unit 5 ∷ [])) e)
same_kept e = kept_is_enough sliding.sliding_seen _ _ equal_kept e

-- one trigger deep is deep enough for one window
abbrev context : Context
context = record { catalog = sliding.sliding_seen; procedure = 0; args = []; batches = []; inner = []; split_value = None }

deep_enough : cascade_to_depth 3 context 0 ≡ trigger_cascade context 0
deep_enough = windows_are_enough sliding.sliding_seen sliding.accepted context refl 0 3 (omega arith) (omega arith)

-- and two deep for two that feed one another
abbrev nested_context : Context
nested_context = record { catalog = nested.nested; procedure = 0; args = []; batches = []; inner = []; split_value = None }

nested_enough : cascade_to_depth 5 nested_context 0 ≡ trigger_cascade nested_context 0
nested_enough = windows_are_enough nested.nested nested.accepted nested_context refl 0 5 (omega arith) (omega arith)

-- an abort leaves all
leaves : AbortLeaves accounts.opened (accounts.put_call 2 1 9) (record { db = accounts.opened; outcome = Aborted (KeyTaken 0); emitted = [] })
leaves = abort_leaves accounts.accounts accounts.opened (accounts.put_call 2 1 9) _ accounts.refused tt

leaves_flow : AbortLeaves flow_run.split (StepEntry 1 0) flow_run.raising
leaves_flow = abort_leaves flow.workflow flow_run.split (StepEntry 1 0) flow_run.raising flow_run.raises tt

-- a step moves on
moves_on : StepMovesOn sliding.sliding_seen run.pushed 0 0 run.done_step
moves_on = steps_move sliding.sliding_seen run.pushed 0 0 run.done_step (record { counts = refl; streams = refl }) run.steps

-- one with outputs, and one that aborts
moves_two : StepMovesOn flow.workflow flow_run.pushed 0 0 flow_run.splitting
moves_two = steps_move flow.workflow flow_run.pushed 0 0 flow_run.splitting (record { counts = refl; streams = refl }) flow_run.splits

moves_aborted : StepMovesOn flow.workflow flow_run.split 1 0 flow_run.raising
moves_aborted = steps_move flow.workflow flow_run.split 1 0 flow_run.raising (record { counts = refl; streams = refl }) flow_run.raises

-- a window of three that slides by two
shows : WindowShows sliding.sliding
shows = window_shows sliding.sliding (omega arith) (omega arith)

-- a balance and an argument have a sum
abbrev total : Expr
total = Binary Add (Col 0 1) (Param 0)

total_type : expr_type (accounts.acct.schema ∷ []) (accounts.id ∷ []) total ≡ Some IntType
total_type = simp (at_param, at_col, at_binary)

sound_total : TypingIsSound (accounts.acct.schema ∷ []) (accounts.id ∷ []) ((Int (pos 1) ∷ Int (pos 5) ∷ []) ∷ []) (Int (pos 2) ∷ []) total IntType
sound_total = typing_is_sound (accounts.acct.schema ∷ []) (accounts.id ∷ []) ((Int (pos 1) ∷ Int (pos 5) ∷ []) ∷ []) (Int (pos 2) ∷ []) refl refl total IntType total_type

-- what a call under `all` touches is one of eight partitions
touches_inside : (args : Row) (p : ℕ) → touches split.by_account 8 (Call 0 0 1 args) p ≡ true → p < 8
touches_inside args = touched_run split.by_account 8 (omega arith) (Call 0 0 1 args)

-- a list carries equal kept
carries : (list : List Listed) → CarriedByKept sliding.sliding_seen (of_units (unit 1 ∷ unit 2 ∷ unit 3 ∷ unit 4 ∷ unit 5 ∷ [])) (of_units (unit 6 ∷ unit 7 ∷ unit 3 ∷ unit 4 ∷ unit 5 ∷ [])) list
carries list = kept_carries sliding.sliding_seen _ _ equal_kept list

-- a step with two outputs brings each a batch, and a push its own
joins : BatchesJoin flow.workflow flow_run.pushed (StepEntry 0 0) flow_run.splitting
joins = batches_join flow.workflow flow_run.pushed (record { counts = refl; streams = refl }) (StepEntry 0 0) flow_run.splitting flow_run.splits

two_outputs : map (λ b. b.stream) (emitted_batches flow.workflow (StepEntry 0 0) flow_run.splitting) ≡ 1 ∷ 2 ∷ []
two_outputs = refl

joins_push : BatchesJoin sliding.sliding_seen (empty_database sliding.sliding_seen) run.push run.accepted_push
joins_push = batches_join sliding.sliding_seen (empty_database sliding.sliding_seen) (record { counts = refl; streams = refl }) run.push run.accepted_push run.pushes

one_push : map (λ b. b.stream) (emitted_batches sliding.sliding_seen run.push run.accepted_push) ≡ 0 ∷ []
one_push = refl

grows : (s : ℕ) → GrowsByOne (stream_batches flow_run.pushed s) (stream_batches flow_run.splitting.db s)
grows = grows_by_one flow.workflow flow_run.pushed (StepEntry 0 0) flow_run.splitting flow_run.splits

-- whole databases: tables and calls, windows, a workflow
whole_accounts : WholeDatabase accounts.accounts (after accounts.accounts (empty_database accounts.accounts) accounts.three_calls)
whole_accounts = whole_after accounts.accounts accounts.accepted (empty_database accounts.accounts) accounts.three_calls (empty_whole accounts.accounts accounts.accepted)

whole_window : WholeDatabase sliding.sliding_seen (after sliding.sliding_seen (empty_database sliding.sliding_seen) run.push_and_step)
whole_window = whole_after sliding.sliding_seen sliding.accepted (empty_database sliding.sliding_seen) run.push_and_step (empty_whole sliding.sliding_seen sliding.accepted)

whole_pushed : WholeDatabase flow.workflow flow_run.pushed
whole_pushed = stays_whole flow.workflow flow.accepted (empty_database flow.workflow) flow_run.push _ (empty_whole flow.workflow flow.accepted) flow_run.pushes

-- after the list of the window no stream has had more than two batches
few_batches : HadAtMost 2 (after sliding.sliding_seen (empty_database sliding.sliding_seen) run.push_and_step)
few_batches = had_at_most sliding.sliding_seen sliding.accepted (empty_database sliding.sliding_seen) (empty_whole sliding.sliding_seen sliding.accepted) 0 none run.push_and_step
  where
    none : (s : ℕ) → length (stream_batches (empty_database sliding.sliding_seen) s) ≤ 0
    none zero = omega arith
    none (suc s) = omega arith

-- a workflow settles in one way, with all batches taken
rests : AtRest flow.workflow flow_run.pushed
rests = at_rest flow.workflow flow.accepted flow_run.pushed whole_pushed.in_step

settles_so : SettlesOnce flow.workflow flow_run.pushed
settles_so = settles_once flow.workflow flow.accepted flow_run.pushed whole_pushed.in_step

-- in as many steps as are pending, each of which leaves one less
four_pending : pending_steps flow.workflow flow_run.pushed ≡ 4
four_pending = refl

four_steps : length settles_so.list ≡ 4
four_steps = settles_so.many ∙ four_pending

one_less : pending_steps flow.workflow flow_run.split + 1 ≡ pending_steps flow.workflow flow_run.pushed
one_less = lower_pending flow.workflow flow.accepted flow_run.pushed whole_pushed.in_step 0 0 flow_run.splitting flow_run.splits

-- the next is of a ready procedure, and joins those before it
next_ready : NextIsReady flow.workflow flow_run.pushed
next_ready = next_is_ready flow.workflow flow_run.pushed

first_joins : SettlesOn flow.workflow flow_run.pushed (StepEntry 0 0 ∷ [])
first_joins = (loop_settles flow.workflow flow_run.pushed []).goes_on tt 0 refl

loop_ends : SettlesOn flow.workflow flow_run.joined [] → Settles flow.workflow flow_run.joined []
loop_ends on = (loop_settles flow.workflow flow_run.joined []).ends on refl

in_this_order : StepEntry 0 0 ∷ StepEntry 1 0 ∷ StepEntry 2 0 ∷ StepEntry 3 0 ∷ [] ≡ settles_so.list
in_this_order = settles_so.only _ flow_run.settles

weak : WeakListOnce flow.workflow (empty_database flow.workflow) (flow_run.push ∷ [])
weak = weak_once flow.workflow flow.accepted (flow_run.push ∷ []) (empty_database flow.workflow) (empty_in_step flow.workflow flow.accepted.structure.streams.wired)

weak_replays : ReplaysWithOutcomes flow.workflow (empty_database flow.workflow) weak.list
weak_replays = weak.replays ((tt, refl), tt)

parts_of_accepted : AcceptedFrame flow.workflow × (OwnBodies flow.workflow × OtherBodies flow.workflow)
parts_of_accepted = (in_parts flow.workflow).0 flow.accepted

-- in place of its own body each procedure of the accounts may have an empty one
nothing : ℕ → List Step
nothing q = []

-- no steps are few, in a nest too
short : (inner : List ℕ) → body_within_limit inner [] ≡ true
short [] = refl
short (s ∷ inner) = refl

emptied : AcceptedBodies accounts.accounts nothing
unfolding nothing
emptied q p is = record {
  kind = refl;
  size = short p.inner;
  typed = refl;
  in_scope = refl;
  local = λ args. let own = (accounts.accepted.uses q p is).local args in record { steps = tt; owned = own.owned; triggers = own.triggers };
  limited = tt;
  emits = by q is;
  adds = none q is;
}
  where
    by : (q : ℕ) → slice_get accounts.accounts.procedures q ≡ Some p → (s : ℕ) → false ≡ list_any (emits_to s) p.body
    by zero e s = ap (procedure_has (λ d. list_any (emits_to s) d.body)) e
    by (suc zero) e s = ap (procedure_has (λ d. list_any (emits_to s) d.body)) e
    by (suc (suc n)) e s = cc

    none : (q : ℕ) → slice_get accounts.accounts.procedures q ≡ Some p → (s : ℕ) → false ≡ list_any (adds_to s) p.body
    none zero e s = ap (procedure_has (λ d. list_any (adds_to s) d.body)) e
    none (suc zero) e s = ap (procedure_has (λ d. list_any (adds_to s) d.body)) e
    none (suc (suc n)) e s = cc

still_accepted : BodiesMayChange accounts.accounts nothing
still_accepted = may_change accounts.accounts nothing emptied accounts.accepted

aside : SameBodiesAside accounts.accounts nothing
aside = bodies_aside accounts.accounts nothing emptied

-- and the branch of the workflow that adds ten may have no test
abbrev untested : List Step
untested = Emit 3 (select (Plain (Binary Add (Col 0 0) (number 10)) ∷ []) (FromBatch 0) None) ∷ []

other_bodies : ℕ → List Step
other_bodies zero = flow.splits.body
other_bodies (suc zero) = untested
other_bodies (suc (suc zero)) = flow.adds_twenty.body
other_bodies (suc (suc (suc q))) = flow.joins.body

-- a procedure may have its own body
own_body : (q : ℕ) (p d : Procedure) → slice_get flow.workflow.procedures q ≡ Some p → d ≡ p → AcceptedBody flow.workflow q p d.body
own_body q p d is same = subst (λ z. AcceptedBody flow.workflow q p z.body) (sym same) ((parts_of_accepted.1).0 q p is)

untested_accepted : AcceptedBody flow.workflow 1 flow.adds_ten untested
untested_accepted = record {
  kind = refl;
  size = refl;
  typed = simp (at_lit, at_col, at_binary);
  in_scope = refl;
  local = λ args. record { steps = (((tt, tt), tt), tt); owned = λ w o. o; triggers = λ w o. cc };
  limited = (tt, tt);
  emits = λ s. refl;
  adds = λ s. refl;
}

others_accepted : AcceptedBodies flow.workflow other_bodies
unfolding other_bodies
others_accepted zero p is = own_body 0 p flow.splits is (some_same _ _ is)
others_accepted (suc zero) p is = subst (λ z. AcceptedBody flow.workflow 1 z untested) (some_same _ _ is) untested_accepted
others_accepted (suc (suc zero)) p is = own_body 2 p flow.adds_twenty is (some_same _ _ is)
others_accepted (suc (suc (suc zero))) p is = own_body 3 p flow.joins is (some_same _ _ is)
others_accepted (suc (suc (suc (suc q)))) p is = cc

flow_still_accepted : BodiesMayChange flow.workflow other_bodies
flow_still_accepted = may_change flow.workflow other_bodies others_accepted flow.accepted

flow_aside : SameBodiesAside flow.workflow other_bodies
flow_aside = bodies_aside flow.workflow other_bodies others_accepted

-- of the changed catalogue the same steps settle
flow_settles : SettlesOnce (with_bodies flow.workflow other_bodies) flow_run.pushed
flow_settles = settles_once (with_bodies flow.workflow other_bodies) flow_still_accepted.accepted flow_run.pushed ((flow_aside.whole flow_run.pushed).1 whole_pushed).in_step

-- a push leaves a workflow in step, and its first step wakes the procedures of both branches
in_step : IsInStep flow.workflow flow_run.pushed
in_step = in_step_next flow.workflow flow.accepted.structure.streams.wired (empty_database flow.workflow) flow_run.push _ (empty_in_step flow.workflow flow.accepted.structure.streams.wired) flow_run.pushes

wakes_branch : (wakes flow.workflow (StepEntry 0 0) 1 ≡ true) ⊎ IsStepOf 1 (StepEntry 0 0)
wakes_branch = ready_is_woken flow.workflow flow_run.pushed (record { counts = refl; streams = refl }) (StepEntry 0 0) flow_run.splitting flow_run.splits 1 refl refl

wakes_both : (wakes flow.workflow (StepEntry 0 0) 1 ≡ true) × (wakes flow.workflow (StepEntry 0 0) 2 ≡ true) × (wakes flow.workflow (StepEntry 0 0) 3 ≡ false)
wakes_both = (refl, refl, refl)

-- with blanks in place of the units that no slide shows again a database is still whole
abbrev five_units : List Rows
five_units = unit 1 ∷ unit 2 ∷ unit 3 ∷ unit 4 ∷ unit 5 ∷ []

five_whole : (w : ℕ) (d : WindowDef) → slice_get sliding.sliding_seen.windows w ≡ Some d → WholeWindow d (get_or (five_units ∷ []) w [])
five_whole zero d is = subst (λ z. WholeWindow z five_units) (some_same _ _ is) (record { units = refl; few = omega arith })
five_whole (suc w) d is = cc

whole_units : WholeDatabase sliding.sliding_seen (of_units five_units)
unfolding window_units table_at
whole_units =
    let e = empty_whole sliding.sliding_seen sliding.accepted in
    record {
      contents = record { table_count = e.contents.table_count; window_count = refl; tables = e.contents.tables; windows = five_whole };
      in_step = record {
        matched = record { shape = record { counts = refl; streams = refl }; streams = e.in_step.matched.streams };
        within = e.in_step.within;
      };
      next_count = refl;
      batches = e.batches;
      calls = e.calls;
      next_numbers = e.next_numbers;
      inner = e.inner;
      body_count = refl;
      bodies = e.bodies;
    }

blank_kept : kept sliding.sliding_seen (of_units five_units) ≡ kept sliding.sliding_seen (of_units ([] ∷ [] ∷ unit 3 ∷ unit 4 ∷ unit 5 ∷ []))
unfolding kept
blank_kept = refl

whole_with_blanks : WholeDatabase sliding.sliding_seen (of_units ([] ∷ [] ∷ unit 3 ∷ unit 4 ∷ unit 5 ∷ []))
whole_with_blanks = kept_is_whole sliding.sliding_seen (of_units five_units) (of_units ([] ∷ [] ∷ unit 3 ∷ unit 4 ∷ unit 5 ∷ [])) (from_kept sliding.sliding_seen _ _ blank_kept) whole_units

-- a run of the accounts leaves whole contents
whole_run : WholeResult accounts.accounts (run_procedure accounts.accounts 1 accounts.returns [] [] (empty_database accounts.accounts).contents)
whole_run = run_whole accounts.accounts accounts.accepted.typed accounts.accepted.in_scope 1 accounts.returns [] [] (empty_database accounts.accounts).contents refl refl refl (λ i. tt) (empty_whole accounts.accounts accounts.accepted).contents

-- a run of the window's procedure on five units, and on blanks in place of the first two
alike : SameKept sliding.sliding_seen (of_units five_units).contents (of_units ([] ∷ [] ∷ unit 3 ∷ unit 4 ∷ unit 5 ∷ [])).contents
alike = (from_kept sliding.sliding_seen _ _ blank_kept).contents

run_alike : (p : Procedure) (batches : List Rows) → BodyResultRelated (SameKept sliding.sliding_seen) (run_procedure sliding.sliding_seen 0 p [] batches (of_units five_units).contents) (run_procedure sliding.sliding_seen 0 p [] batches (of_units ([] ∷ [] ∷ unit 3 ∷ unit 4 ∷ unit 5 ∷ [])).contents)
run_alike p batches = contents_kept sliding.sliding_seen 0 p [] batches _ _ alike
