-- Rows that a search found are enough: WHERE passes the same of them as of all rows, and aborts as it does on all.
use Rattle.std.proofs.Common.{◌≡◌, ℕ, Bool, true, false, cond, List, [], ◌∷◌, map, refl, sym, ap, subst, ◌∙◌, Option, Some, None, Ok, Err, Result, IfOk, IfErr}
use Rattle.std.specs.Prelude.{IfSome}
use Rattle.std.specs.List.{AllByRecursion, filter}
use Rattle.ss_value.specs.Rows.{Row, Rows}
use Rattle.ss_sql_trees.specs.declared.typed.Expr.{Expr}
use Rattle.ss_sql_trees.specs.declared.typed.SourceId.{SourceId}
use Rattle.ss_sql_trees.specs.declared.typed.Query.{Query}
use Rattle.ss_model.specs.Results.{OrAbort, ◌>>=◌, try_map, try_filter}
use Rattle.ss_model.specs.Queries.{where_passes, join_source, query_result, query_rows, query_groups, item_value, take_limit, sort_rows, order_by_cmp}
use Rattle.ss_sql_trees.specs.WellTyped.{query_aggregated}
use Rattle.ss_model.specs.declared.run_error.RunError.{RunError}
use Rattle.ss_model.specs.Stops.{StopsAs}
use Rattle.ss_rows.specs.Sources.{Positioned, rows_in}
use Rattle.ss_plan.specs.Fronts.{meets_run}
use Rattle.ss_plan.specs.Keys.{Finds}
use Rattle.ss_plan.specs.Scans.{slots_passing, FindsPositions}
use Rattle.ss_plan.specs.Found.{rows_found, at_positions}
use Rattle.ss_plan.specs.declared.found.FoundRows.{FoundRows}
use Rattle.ss_plan.specs.declared.passing.PassingSlots.{PassingSlots}
use Rattle.ss_plan.proofs.AtPositions.{rows_there}
use Rattle.ss_plan.proofs.Fronts.{run_decides}

module _ {A : Type 0} (g : A → OrAbort Bool) (keep : A → Bool) where
  nothing_changes : (r : OrAbort (List A)) → r ≡ (r >>= λ ys. Ok ys)
  nothing_changes (Ok ys) = refl
  nothing_changes (Err e) = refl

  left_step : (x : A) (xs : List A) (b : Bool) → keep x ≡ b → (keep x ≡ false → g x ≡ Ok false) → try_filter g (filter keep xs) ≡ try_filter g xs
      → try_filter g (cond b (x ∷ filter keep xs) (filter keep xs)) ≡ (g x >>= λ b. try_filter g xs >>= λ ys. Ok (cond b (x ∷ ys) ys))
  left_step x xs true is off rest = ap (λ r. g x >>= λ b. r >>= λ ys. Ok (cond b (x ∷ ys) ys)) rest
  left_step x xs false is off rest = rest ∙ nothing_changes (try_filter g xs) ∙ sym (ap (λ o. o >>= λ b. try_filter g xs >>= λ ys. Ok (cond b (x ∷ ys) ys)) (off is))

  -- what is left out fails the test, and doesn't abort
  pub left_out : (xs : List A) → AllByRecursion (λ x. keep x ≡ false → g x ≡ Ok false) xs → try_filter g (filter keep xs) ≡ try_filter g xs
  left_out [] h = refl
  left_out (x ∷ xs) h = left_step x xs (keep x) refl h.0 (left_out xs h.1)

module _ (params : Row) (test : Option Expr) (all some : Positioned) (f : Finds params test all some) where
  abbrev passes : ℕ × Row → OrAbort Bool
  passes p = where_passes params test (p.1 ∷ [])

  none_passes : (ps : Positioned) → AllByRecursion (λ p. f.keep p ≡ false → meets_run params test p.1 ≡ false) ps → AllByRecursion (λ p. f.keep p ≡ false → passes p ≡ Ok false) ps
  none_passes [] h = tt
  none_passes (p ∷ ps) h = (λ off. run_decides params test p.1 (h.0 off), none_passes ps h.1)

  -- the same rows pass, and the same test aborts
  pub same_passes : try_filter passes some ≡ try_filter passes all
  same_passes = ap (try_filter passes) f.are ∙ left_out passes f.keep all (none_passes all f.rest)

-- all rows are enough
pub all_found : (params : Row) (test : Option Expr) (all : Positioned) → Finds params test all all
all_found params test all = record { keep = λ p. true; are = every_one all; rest = no_others all }
  where
    every_one : (ps : Positioned) → ps ≡ filter (λ p. true) ps
    every_one [] = refl
    every_one (p ∷ ps) = ap (λ rest. p ∷ rest) (every_one ps)

    no_others : (ps : Positioned) → AllByRecursion (λ p. true ≡ false → meets_run params test p.1 ≡ false) ps
    no_others [] = tt
    no_others (p ∷ ps) = (λ off. cc, no_others ps)

-- ---- and so a query of one source gives the same

module _ (params : Row) (test : Option Expr) where
  abbrev each : Positioned → List Rows
  each ps = map (λ l. l ∷ []) (rows_in ps)

  abbrev tuple_passes : Rows → OrAbort Bool
  tuple_passes = where_passes params test

  abbrev row_passes : ℕ × Row → OrAbort Bool
  row_passes p = where_passes params test (p.1 ∷ [])

  both_kept : (p : ℕ × Row) (b : Bool) (r : OrAbort Positioned) → ((r >>= λ ps. Ok (each ps)) >>= λ ys. Ok (cond b ((p.1 ∷ []) ∷ ys) ys)) ≡ ((r >>= λ ps. Ok (cond b (p ∷ ps) ps)) >>= λ ps. Ok (each ps))
  both_kept p true (Ok ps) = refl
  both_kept p false (Ok ps) = refl
  both_kept p b (Err e) = refl

  kept_step : (p : ℕ × Row) (o : OrAbort Bool) (r : OrAbort Positioned) → (o >>= λ b. (r >>= λ ps. Ok (each ps)) >>= λ ys. Ok (cond b ((p.1 ∷ []) ∷ ys) ys)) ≡ ((o >>= λ b. r >>= λ ps. Ok (cond b (p ∷ ps) ps)) >>= λ ps. Ok (each ps))
  kept_step p (Ok b) r = both_kept p b r
  kept_step p (Err e) r = refl

  -- tuples of one row are tested as their rows are
  tuples_tested : (ps : Positioned) → try_filter tuple_passes (each ps) ≡ (try_filter row_passes ps >>= λ ps. Ok (each ps))
  tuples_tested [] = refl
  tuples_tested (p ∷ ps) = ap (λ r. tuple_passes (p.1 ∷ []) >>= λ b. r >>= λ ys. Ok (cond b ((p.1 ∷ []) ∷ ys) ys)) (tuples_tested ps) ∙ kept_step p (row_passes p) (try_filter row_passes ps)

  pub same_tuples : (all some : Positioned) → Finds params test all some → try_filter tuple_passes (each some) ≡ try_filter tuple_passes (each all)
  same_tuples all some f = tuples_tested some ∙ ap (λ r. r >>= λ ps. Ok (each ps)) (same_passes params test all some f) ∙ sym (tuples_tested all)

-- a query without a JOIN gives the same on the rows that were found
pub same_query : (all some : SourceId → Positioned) (params : Row) (q : Query) → q.joined ≡ None → Finds params q.test (all q.from) (some q.from) →
    query_rows (λ s. rows_in (some s)) params q ≡ query_rows (λ s. rows_in (all s)) params q
unfolding query_result
same_query all some params q alone f =
    let on = λ (sources : SourceId → Positioned). ap (λ j. query_result (rows_in (sources q.from)) j params q) (ap (join_source (λ s. rows_in (sources s))) alone) in
    on some
    ∙ ap (λ r. r >>= λ found. try_map (λ group. try_map (item_value params group) q.items) (query_groups (query_aggregated q) q.groups found) >>= λ results. Ok (take_limit q.limit (sort_rows (order_by_cmp q.order) results))) (same_tuples params q.test (all q.from) (some q.from) f)
    ∙ sym (on all)

-- so it does on the same rows at their positions in a list
pub found_query : (all : SourceId → Positioned) (found : FoundRows) (params : Row) (q : Query) → q.joined ≡ None → Finds params q.test (all q.from) (rows_found found) →
    query_rows (λ s. rows_in (at_positions found)) params q ≡ query_rows (λ s. rows_in (all s)) params q
found_query all found params q alone f =
    ap (λ (rows : Rows). query_rows (λ s. rows) params q) (rows_there 0 (rows_in (rows_found found))) ∙ same_query all (λ s. rows_found found) params q alone f

-- ---- what was answered on what was found holds of all

pub some_holds : {A : Type 0} (P : A → Type 0) (o : Option A) (x : A) → o ≡ Some x → IfSome o P → P x
some_holds P (Some y) x is h = subst P (let q : y ≡ x = cc in q) h
some_holds P None x is h = cc

module _ {A : Type 0} (some all : OrAbort A) (same : some ≡ all) where
  pub ok_of_all : (r : Result A RunError) → IfOk r (λ x. some ≡ Ok x) → IfOk r (λ x. all ≡ Ok x)
  ok_of_all r h = subst (λ (m : OrAbort A). IfOk r (λ x. m ≡ Ok x)) same h

  pub stops_of_all : {B : Type 0} (r : Result B RunError) → IfErr r (StopsAs some) → IfErr r (StopsAs all)
  stops_of_all r h = subst (λ (m : OrAbort A). IfErr r (StopsAs m)) same h

-- and so do the positions of those that pass
pub positions_of_all : (params : Row) (test : Option Expr) (all some : Positioned) → Finds params test all some → (r : Result PassingSlots RunError) →
    IfOk r (λ slots. FindsPositions params test some (slots_passing slots)) → IfOk r (λ slots. FindsPositions params test all (slots_passing slots))
positions_of_all params test all some f r h =
    subst (λ (m : OrAbort Positioned). IfOk r (λ slots. (found : Positioned) × (m ≡ Ok found) × (slots_passing slots ≡ map (λ p. p.0) found))) (same_passes params test all some f) h
