-- What an execution asks for, at a catalogue with a window, a trigger on it and a procedure that fills it.
use Rattle.std.proofs.Common.{◌≡◌, true, refl}
use Rattle.ss_model.specs.declared.entry.Entry.TheVariants.{Step as StepEntry}
use Rattle.ss_model.specs.Database.{fits_entry}
use Rattle.ss_model.proofs.CallerLemmas.{sliding_seen, fills, accepted}
use Rattle.ss_proc.specs.Executions.{MayRun, ProcedureRuns}
use Rattle.ss_proc.proofs.Fitting.{may_run, body_fits}

-- a step of it fits
pub fits : fits_entry sliding_seen (StepEntry 0 0) ≡ true
fits = refl

-- executions of it may run
pub may : MayRun sliding_seen
may = may_run sliding_seen accepted

-- and the body of the step is one that may, whichever it is
pub runs : ProcedureRuns sliding_seen 0 fills
runs = body_fits sliding_seen accepted 0 fills refl
