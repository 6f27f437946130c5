-- A part of an execution that does what another does.
use Rattle.std.proofs.Common.{◌≡◌, ◌∙◌, [], Result, Ok, Err, OnOk, IfErr}
use Rattle.ss_model.specs.Results.{OrAbort}
use Rattle.ss_model.specs.Statements.{Execution}
use Rattle.ss_model.specs.declared.run_error.RunError.{RunError}
use Rattle.ss_model.proofs.CallerLemmas.{stops_same}
use Rattle.ss_shard.specs.ShardValue.{ShardValue}
use Rattle.ss_shard.specs.Shards.{Changed}
use Rattle.ss_plan.proofs.CallerLemmas.{changed_on}
use Rattle.ss_proc.specs.declared.work.Work.{Work}
use Rattle.ss_proc.specs.Executions.{execution_of}
use Rattle.ss_proc.specs.Meanings.{Brings, StepStops, Does}
use Rattle.ss_proc.proofs.Apart.{Apart, done_apart, stops_apart}

-- from a place that changes have led to, from which the other comes to the same
module _ (step other : Execution → OrAbort Execution) (old now : ShardValue) (work at : Work) (same : step (execution_of old work) ≡ other (execution_of now at)) (new : ShardValue) (further : Work) where
  done_on : (result : Result (Unit {0}) RunError) → OnOk result (Brings other now at new further) → OnOk result (Brings step old work new further)
  done_on (Ok done) h = same ∙ h
  done_on (Err stop) h = tt

  stops_on : (result : Result (Unit {0}) RunError) → IfErr result (StepStops other now at) → IfErr result (StepStops step old work)
  stops_on (Ok done) h = tt
  stops_on (Err stop) h = stops_same _ _ stop same h

  pub does_on : (result : Result (Unit {0}) RunError) → Changed old now → Does other result now at new further → Does step result old work new further
  does_on result changed does = record {
    ok = done_on result does.ok;
    stops = stops_on result does.stops;
    changed = changed_on old now new changed does.changed;
  }

-- the same, where nothing has changed yet
pub does_as : (step other : Execution → OrAbort Execution) (old new : ShardValue) (work further : Work) (result : Result (Unit {0}) RunError) → step (execution_of old work) ≡ other (execution_of old work) → Does other result old work new further → Does step result old work new further
does_as step other old new work further result same does = record {
  ok = done_on step other old old work work same new further result does.ok;
  stops = stops_on step other old old work work same new further result does.stops;
  changed = does.changed;
}

-- the same, where the batches so far were out of the work meanwhile
module _ (step other : Execution → OrAbort Execution) (apart : Apart other) (old new : ShardValue) (work further : Work) (same : step (execution_of old work) ≡ other (execution_of old work)) where
  abbrev pub without : Work
  without = record work { emitted = [] }

  pub apart_done : Brings other old without new further → Brings step old work new (record further { emitted = work.emitted })
  apart_done h = same ∙ done_apart other apart work.emitted (execution_of old without) (execution_of new further) h

  pub apart_stops : (stop : RunError) → StepStops other old without stop → StepStops step old work stop
  apart_stops stop h = stops_same _ _ stop same (stops_apart other apart work.emitted (execution_of old without) stop h)
