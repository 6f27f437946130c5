-- The locality law: a run depends on the touched parts alone, and leaves every other part as it was.
use Rattle.std.proofs.Common.{None, Some, slice_get, ◌≡◌, ℕ, Bool, true, false, cond, List, [], ◌∷◌, length, refl, ap, Ok, Err}
use Rattle.std.proofs.lemmas.Bool.Decides.{Decides-eqb}
use Rattle.std.specs.List.{AllByRecursion, filter, range_with_len}
use Rattle.ss_model.specs.declared.catalog.Procedure.{Procedure}
use Rattle.ss_model.specs.declared.catalog.WindowDef.{WindowDef}
use Rattle.std.specs.declared.option.Option.{Option}
use Rattle.ss_lemmas.proofs.EachOf.{all_with}
use Rattle.ss_model.specs.declared.catalog.Catalog.{Catalog}
use Rattle.ss_model.specs.declared.entry.Outcome.TheVariants.{Done, Aborted}
use Rattle.ss_model.specs.Results.{OrAbort}
use Rattle.ss_value.specs.Rows.{Row, Rows}
use Rattle.ss_model.specs.Contents.{Contents, owner_from}
use Rattle.ss_model.specs.Statements.{Context, Execution}
use Rattle.ss_model.specs.Bodies.{owned_batch_windows, is_closed_by}
use Rattle.ss_model.specs.Database.{body_result, run_procedure}
use Rattle.ss_model.specs.Claims.{Claims, UsesOnly}
use Rattle.ss_model_kept.proofs.Related.{Related}
use Rattle.ss_model_kept.proofs.Respects.{ExecutionRelated, body_related}
use Rattle.ss_model_kept.proofs.Agreement.{agree_respects}
use Rattle.ss_model_kept.proofs.Unchanged.{Held, held_respects}
use Rattle.ss_model.specs.parts.Locality.{Agree, Unchanged, IsVisibleRow, context_of, inside_scope, BodyResultRelated, RunIsLocal}
use Rattle.ss_lemmas.proofs.Bools.{first_of_two}

passes_on : {A : Type 0} (test : A → Bool) (x : A) (xs : List A) (b : Bool) → test x ≡ b → AllByRecursion (λ x. test x ≡ true) xs → AllByRecursion (λ x. test x ≡ true) (cond b (x ∷ xs) xs)
passes_on test x xs true e all = (e, all)
passes_on test x xs false e all = all

-- those that pass a filter pass its test
pub filter_passes : {A : Type 0} (test : A → Bool) (xs : List A) → AllByRecursion (λ x. test x ≡ true) (filter test xs)
filter_passes test [] = tt
filter_passes test (x ∷ xs) = passes_on test x (filter test xs) (test x) refl (filter_passes test xs)

-- a window that a procedure closes is its own
closes_owner : (q : ℕ) (d : Option WindowDef) → is_closed_by q d ≡ true → owner_from d ≡ Some q
closes_owner q None e = cc
closes_owner q (Some d) e = ap Some ((Decides-eqb d.owner q).0 (first_of_two _ _ e))

pub body_result_related : (R : Contents → Contents → Type 0) (catalog : Catalog) (s z : Contents) (x y : OrAbort Execution) → R s z → Related (ExecutionRelated R) x y → BodyResultRelated R (body_result catalog s x) (body_result catalog z y)
body_result_related R catalog s z (Ok w) (Ok v) r h = record { contents = h.contents_related; outcome = ap Done h.reply; emitted = h.emitted }
body_result_related R catalog s z (Ok w) (Err q) r h = absurd h
body_result_related R catalog s z (Err q) (Ok v) r h = absurd h
body_result_related R catalog s z (Err q) (Err o) r h = record { contents = r; outcome = ap Aborted h; emitted = refl }

module _ (catalog : Catalog) (q : ℕ) (p : Procedure) (args : Row) (batches : List Rows) (inside : ℕ → Row → Bool) (inside_w : ℕ → Bool) (uses : UsesOnly (inside_scope inside inside_w (context_of catalog q p args batches)) catalog q args p) where
  here : Context
  here = context_of catalog q p args batches

  abbrev scope : Claims
  scope = inside_scope inside inside_w (context_of catalog q p args batches)

  own_windows : AllByRecursion scope.window (owned_batch_windows catalog q)
  own_windows =
      all_with (λ w. is_closed_by q (slice_get catalog.windows w) ≡ true) scope.window
      (λ w e. uses.owned w (closes_owner q (slice_get catalog.windows w) e))
      (owned_batch_windows catalog q) (filter_passes _ (range_with_len 0 (length catalog.windows)))

  -- it depends on the touched parts alone
  pub run_depends : (s z : Contents) → Agree inside inside_w s z → BodyResultRelated (Agree inside inside_w) (run_procedure catalog q p args batches s) (run_procedure catalog q p args batches z)
  run_depends s z r =
      body_result_related _ catalog s z _ _ r
      (body_related (context_of catalog q p args batches) scope (IsVisibleRow (context_of catalog q p args batches)) _ (agree_respects _ _ (context_of catalog q p args batches)) p.body (λ w h. uses.triggers w h.0) uses.steps own_windows s z r)

  -- it leaves the others as they were
  pub run_leaves : (s : Contents) → Unchanged inside inside_w s (run_procedure catalog q p args batches s).contents
  run_leaves s =
      let start : Unchanged inside inside_w s s = record { tables = λ t. refl; windows = λ w h. refl; table_count = refl; window_count = refl } in
      (body_result_related (Held inside inside_w s) catalog s s _ _ (refl, start)
      (body_related (context_of catalog q p args batches) scope (IsVisibleRow (context_of catalog q p args batches)) _ (held_respects _ _ s (context_of catalog q p args batches)) p.body (λ w h. uses.triggers w h.0) uses.steps own_windows s s (refl, start))).contents.1

  pub run_is_local : RunIsLocal catalog q p args batches inside inside_w
  run_is_local = record { depends = run_depends; leaves = run_leaves }
