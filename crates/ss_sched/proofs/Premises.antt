-- The premises of the calls, met by a workflow that splits a batch in two and joins both again.
use Rattle.std.proofs.Common.{◌≡◌, ℕ, zero, suc, List, [], ◌∷◌, length, true, false, refl, arith, Some}
use Rattle.ss_model.specs.declared.entry.Entry.TheVariants.{Step as StepEntry}
use Rattle.ss_model.specs.Database.{fits_entry}
use Rattle.ss_model.specs.Settling.{is_ready_now, next_settled}
use Rattle.ss_model.specs.Wakes.{wakes}
use Rattle.ss_stream.specs.Pending.{Pending}
use Rattle.ss_stream.specs.OfDatabase.{kept_streams}
use Rattle.ss_sched.specs.Lanes.{Lanes, Taken, with_hint}
use Rattle.ss_sched.specs.Progress.{HasProgress}
use Rattle.ss_sched.specs.Ranks.{AreRanks}
use Rattle.ss_sched.specs.declared.inbox.Task.TheVariants.{Hint, Job}
use Rattle.ss_model_laws.proofs.worked.Workflow as flow
use Rattle.ss_model_laws.proofs.worked.WorkflowRun as run

-- the batch is split: the border procedure has taken it, and each of its two outputs has a batch
abbrev cursors : List ℕ
cursors = 1 ∷ 0 ∷ 0 ∷ 0 ∷ []

abbrev streams : List Pending
streams = kept_streams flow.workflow run.split

progress : HasProgress run.split cursors streams
progress = record { counts_are = refl; lengths = refl }

a_cursor_each : length cursors ≡ length flow.workflow.procedures
a_cursor_each = refl

each_stream : length streams ≡ length flow.workflow.streams
each_stream = refl

-- those behind it are ready, and the one that joins them isn't
ready : is_ready_now flow.workflow run.split 1 ≡ true
ready = refl

waits : is_ready_now flow.workflow run.split 3 ≡ false
waits = refl

-- of two that are ready and of equal rank the first is next
ranks : AreRanks flow.workflow (0 ∷ 1 ∷ 1 ∷ 2 ∷ [])
ranks zero lt = refl
ranks (suc zero) lt = refl
ranks (suc (suc zero)) lt = refl
ranks (suc (suc (suc zero))) lt = refl
ranks (suc (suc (suc (suc q)))) lt = absurd (omega arith)

next : next_settled flow.workflow run.split ≡ Some 1
next = refl

-- the border procedure's step wakes those two, and the push the border procedure
step_fits : fits_entry flow.workflow (StepEntry 0 0) ≡ true
step_fits = refl

wakes_second : wakes flow.workflow (StepEntry 0 0) 2 ≡ true
wakes_second = refl

wakes_not_last : wakes flow.workflow (StepEntry 0 0) 3 ≡ false
wakes_not_last = refl

push_fits : fits_entry flow.workflow run.push ≡ true
push_fits = refl

push_wakes : wakes flow.workflow run.push 0 ≡ true
push_wakes = refl

-- two hints wait, and a job behind them
abbrev waiting : List ℕ → List ℕ → Lanes ℕ
waiting hints jobs = record { hints = hints; jobs = jobs; room = 1 }

hint_waits : with_hint (1 ∷ 2 ∷ []) 2 ≡ 1 ∷ 2 ∷ []
hint_waits = refl

hint_joins : with_hint (1 ∷ 2 ∷ []) 3 ≡ 1 ∷ 2 ∷ 3 ∷ []
hint_joins = refl

hint_first : Taken (waiting (1 ∷ 2 ∷ []) (7 ∷ [])) (Hint 1) (waiting (2 ∷ []) (7 ∷ []))
hint_first = (refl, refl, refl)

job_then : Taken (waiting [] (7 ∷ [])) (Job 7) (waiting [] [])
job_then = (refl, refl, refl, refl)
