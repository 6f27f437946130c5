-- Rows that are emitted: the triggers run on them whatever the batches are.
use Rattle.std.proofs.Common.{◌≡◌, ◌++◌, ℕ, false, List, [], get_or, set, sym, ap, ◌∙◌, Ok}
use Rattle.std.specs.List.{filter}
use Rattle.ss_value.specs.Rows.{Rows}
use Rattle.ss_model.specs.declared.catalog.TriggerDef.{TriggerDef}
use Rattle.ss_model.specs.declared.entry.Reason.TheVariants.{BatchFull}
use Rattle.ss_model.specs.Results.{OrAbort, abort_when}
use Rattle.ss_model.specs.Statements.{Context, Execution, run_triggers, trigger_cascade, is_on_stream}
use Rattle.ss_model.specs.Bodies.{emit_rows, exceeds_row_limit}
use Rattle.ss_model.specs.declared.run_error.RunError.{RunError}
use Rattle.ss_model.specs.Stops.{StopsAs}
use Rattle.ss_model.proofs.CallerLemmas.{stops_same}
use Rattle.ss_proc.proofs.Apart.{with_batches, stream_apart, batches_stay, done_apart, stops_apart}

module _ (context : Context) (s : ℕ) (rows : Rows) (w : Execution) (fits : exceeds_row_limit (get_or w.emitted s []) rows ≡ false) where
  abbrev pub waiting : List TriggerDef
  waiting = filter (λ t. is_on_stream s t.on) (context.catalog).triggers

  abbrev pub fire : Execution → OrAbort Execution
  fire = run_triggers context (trigger_cascade context) rows waiting

  abbrev joined : List Rows → List Rows
  joined e = set e s (get_or e s [] ++ rows)

  emit_by : emit_rows context s rows w ≡ fire (with_batches (joined w.emitted) w)
  emit_by = ap (λ b. abort_when b (BatchFull s) (fire (with_batches (joined w.emitted) w))) fits

  pub emit_stops : (stop : RunError) → StopsAs (fire w) stop → StopsAs (emit_rows context s rows w) stop
  emit_stops stop h = stops_same _ _ stop emit_by (stops_apart fire (stream_apart context rows waiting) (joined w.emitted) w stop h)

  pub emit_done : (v : Execution) (e : List Rows) → fire w ≡ Ok v → e ≡ joined v.emitted → emit_rows context s rows w ≡ Ok (with_batches e v)
  emit_done v e is made =
      emit_by ∙ done_apart fire (stream_apart context rows waiting) (joined w.emitted) w v is
      ∙ ap (λ e. Ok (with_batches e v)) (ap joined (sym (batches_stay fire (stream_apart context rows waiting) w v is)) ∙ sym made)
