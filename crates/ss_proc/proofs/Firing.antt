-- What the functions of the cascade do, by their parts.
use Rattle.std.proofs.Common.{◌≡◌, ◌+◌, ◌<◌, ◌^◌, nat_le, ℕ, Bool, true, false, cond, List, [], ◌∷◌, length, get_or, drop, refl, sym, ap, ◌∙◌, Ok}
use Rattle.std.specs.List.{filter}
use Rattle.std.proofs.lemmas.List.{at_drop_more}
use Rattle.ss_value.specs.Rows.{Rows}
use Rattle.ss_model.specs.declared.catalog.Catalog.{Catalog}
use Rattle.ss_model.specs.declared.catalog.TriggerDef.{TriggerDef}
use Rattle.ss_model.specs.declared.entry.Reason.TheVariants.{WindowFull}
use Rattle.ss_model.specs.Results.{OrAbort, ◌>>=◌, try_fold, abort_when}
use Rattle.ss_model.specs.Contents.{Contents, window_units, append_unit}
use Rattle.ss_model.specs.Statements.{Context, Execution, Cascade, when_moved, close_unit, execute_statement, run_triggers}
use Rattle.ss_model.specs.declared.run_error.RunError.{RunError}
use Rattle.ss_model.specs.Stops.{StopsAs}
use Rattle.ss_shard.specs.Windows.{unit_added, unit_moves_end}
use Rattle.ss_model.proofs.CallerLemmas.{stops_before, stops_same}

-- ---- a unit that is closed

module _ (catalog : Catalog) (cascade : Cascade) (n : ℕ) (unit : Rows) (w : Execution) where
  -- the triggers run where the end has moved
  abbrev pub then_fires : Bool × Contents → OrAbort Execution
  then_fires p = when_moved p.0 (cascade n) (record w { contents = p.1 })

  full_or : (b : Bool) (p : Bool × Contents) → abort_when b (WindowFull n) (then_fires p) ≡ (abort_when b (WindowFull n) (Ok p) >>= then_fires)
  full_or true p = refl
  full_or false p = refl

  close_by : close_unit catalog cascade n unit w ≡ (unit_added catalog n unit w.contents >>= then_fires)
  unfolding close_unit
  close_by = full_or (nat_le (2 ^ 62) (length (window_units w.contents n))) (unit_moves_end catalog n w.contents, append_unit w.contents n unit)

  pub close_stops : (stop : RunError) → StopsAs (unit_added catalog n unit w.contents) stop → StopsAs (close_unit catalog cascade n unit w) stop
  close_stops stop h = stops_same _ _ stop close_by (stops_before (unit_added catalog n unit w.contents) then_fires stop h)

  pub close_moved : (s : Contents) → unit_added catalog n unit w.contents ≡ Ok (true, s) → close_unit catalog cascade n unit w ≡ cascade n (record w { contents = s })
  close_moved s e = close_by ∙ ap (λ r. r >>= then_fires) e

  pub close_still : (s : Contents) → unit_added catalog n unit w.contents ≡ Ok (false, s) → close_unit catalog cascade n unit w ≡ Ok (record w { contents = s })
  close_still s e = close_by ∙ ap (λ r. r >>= then_fires) e

-- ---- the triggers that are set off, one after another

module _ (context : Context) (cascade : Cascade) (inserted : Rows) (p : TriggerDef → Bool) (ts : List TriggerDef) (n : ℕ) (t : TriggerDef) (within : n < length ts) (is : t ≡ get_or ts n t) where
  abbrev run : List TriggerDef → Execution → OrAbort Execution
  run = run_triggers context cascade inserted

  abbrev one : Execution → OrAbort Execution
  one = try_fold (execute_statement context cascade inserted []) t.statements

  here : (w : Execution) → run (filter p (drop n ts)) w ≡ run (cond (p t) (t ∷ filter p (drop (n + 1) ts)) (filter p (drop (n + 1) ts))) w
  here w = at_drop_more (λ ys. run (filter p ys) w) ts n t within ∙ ap (λ x. run (cond (p x) (x ∷ filter p (drop (n + 1) ts)) (filter p (drop (n + 1) ts))) w) (sym is)

  pub fires_on : (w v : Execution) → p t ≡ true → one w ≡ Ok v → run (filter p (drop (n + 1) ts)) v ≡ run (filter p (drop n ts)) w
  fires_on w v fires e =
      sym (here w ∙ ap (λ b. run (cond b (t ∷ filter p (drop (n + 1) ts)) (filter p (drop (n + 1) ts))) w) fires ∙ ap (λ r. r >>= run (filter p (drop (n + 1) ts))) e)

  pub fires_stops : (w : Execution) (stop : RunError) → p t ≡ true → StopsAs (one w) stop → StopsAs (run (filter p (drop n ts)) w) stop
  fires_stops w stop fires h =
      stops_same _ _ stop (here w ∙ ap (λ b. run (cond b (t ∷ filter p (drop (n + 1) ts)) (filter p (drop (n + 1) ts))) w) fires)
      (stops_before (one w) (run (filter p (drop (n + 1) ts))) stop h)

  pub passes_by : (w : Execution) → p t ≡ false → run (filter p (drop (n + 1) ts)) w ≡ run (filter p (drop n ts)) w
  passes_by w still = sym (here w ∙ ap (λ b. run (cond b (t ∷ filter p (drop (n + 1) ts)) (filter p (drop (n + 1) ts))) w) still)
