-- The laws, and what moves streams over an entry, at a workflow that splits and joins.
use Rattle.std.proofs.Common.{◌≡◌, ◌<◌, ◌^◌, ℕ, zero, suc, [], ◌∷◌, length, arith, refl, pos}
use Rattle.ss_value.specs.declared.value.Value.TheVariants.{Int}
use Rattle.ss_value.specs.Rows.{Rows}
use Rattle.ss_model.specs.declared.entry.Entry.TheVariants.{Step as StepEntry}
use Rattle.ss_model.specs.declared.entry.Outcome.TheVariants.{Done}
use Rattle.ss_model.specs.Batches.{emitted_batches}
use Rattle.ss_model.specs.Database.{empty_database, stream_batches}
use Rattle.ss_model_laws.proofs.worked.Workflow as flow
use Rattle.ss_model_laws.proofs.worked.WorkflowRun as run
use Rattle.ss_stream.specs.Pending.{cursor_at}
use Rattle.ss_stream.specs.Streams.{ReservedStreams}
use Rattle.ss_stream.specs.OfDatabase.{kept_stream, kept_streams}
use Rattle.ss_flow.specs.Advances.{Advances, HasRoom}
use Rattle.ss_flow.specs.Follows.{AreOfStreams, StreamFollows}
use Rattle.ss_flow.proofs.Following.{batches_have_streams, stream_follows}

abbrev row_of_seven : Rows
row_of_seven = (Int (pos 7) ∷ []) ∷ []

-- ---- a push, a step of two outputs, and a step that aborts

pushed_follows : StreamFollows flow.workflow (empty_database flow.workflow) run.push (record { db = run.pushed; outcome = Done []; emitted = [] }) 0
pushed_follows = stream_follows flow.workflow (empty_database flow.workflow) (record { counts = refl; streams = refl }) run.push (record { db = run.pushed; outcome = Done []; emitted = [] }) run.pushes 0 (omega arith)

input_follows : StreamFollows flow.workflow run.pushed (StepEntry 0 0) run.splitting 0
input_follows = stream_follows flow.workflow run.pushed (record { counts = refl; streams = refl }) (StepEntry 0 0) run.splitting run.splits 0 (omega arith)

output_follows : StreamFollows flow.workflow run.split (StepEntry 1 0) run.raising 3
output_follows = stream_follows flow.workflow run.split (record { counts = refl; streams = refl }) (StepEntry 1 0) run.raising run.raises 3 (omega arith)

outputs_there : AreOfStreams 5 (emitted_batches flow.workflow (StepEntry 0 0) run.splitting)
outputs_there = batches_have_streams flow.workflow flow.accepted run.pushed (StepEntry 0 0) run.splitting run.splits

-- the pushed batch waits for the border procedure, and is dropped once that has taken it
waits : kept_stream flow.workflow run.pushed 0 ≡ record { first = 0; batches = row_of_seven ∷ []; cursors = cursor_at 0 0 ∷ [] }
waits = refl

taken : kept_stream flow.workflow run.split 0 ≡ record { first = 1; batches = []; cursors = cursor_at 1 0 ∷ [] }
taken = refl

-- the step that aborted has given its output an empty batch
empty_batch : kept_stream flow.workflow run.raised 3 ≡ record { first = 0; batches = [] ∷ []; cursors = cursor_at 0 3 ∷ [] }
empty_batch = refl

-- ---- the step of two outputs can be moved over, and an aborted one too

few_batches : (s : ℕ) → length (stream_batches run.pushed s) < 2 ^ 62
few_batches zero = omega arith
few_batches (suc zero) = omega arith
few_batches (suc (suc zero)) = omega arith
few_batches (suc (suc (suc zero))) = omega arith
few_batches (suc (suc (suc (suc zero)))) = omega arith
few_batches (suc (suc (suc (suc (suc s))))) = omega arith

advances : Advances flow.workflow run.pushed (StepEntry 0 0) run.splitting (emitted_batches flow.workflow (StepEntry 0 0) run.splitting) (kept_streams flow.workflow run.pushed)
advances = record { shape = record { counts = refl; streams = refl }; applies = run.splits; batches_are = refl; streams_are = refl; few = few_batches }

abbrev roomy : ReservedStreams
roomy = record { streams = kept_streams flow.workflow run.pushed; spares = 0 ∷ 1 ∷ 1 ∷ 0 ∷ 0 ∷ [] }

has_room : HasRoom roomy (emitted_batches flow.workflow (StepEntry 0 0) run.splitting)
has_room = (omega arith, (omega arith, tt))
