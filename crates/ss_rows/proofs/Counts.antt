-- COUNT of the rows that pass WHERE, without a list of them.
use Rattle.std.proofs.Common.{◌≡◌, ℕ, ◌+◌, Bool, true, false, true≢false, cond, Option, None, List, [], ◌∷◌, ◌++◌, replicate, length, refl, ap, sym, ◌∙◌, append-nil, pos, Ok, arith}
use Rattle.std.proofs.lemmas.List.{length-append}
use Rattle.std.specs.List.{list_all}
use Rattle.ss_value.specs.declared.value.Value.TheVariants.{Int}
use Rattle.ss_value.specs.Rows.{Row, Rows}
use Rattle.ss_sql_trees.specs.declared.typed.Expr.{Expr}
use Rattle.ss_sql_trees.specs.declared.typed.SourceId.{SourceId}
use Rattle.ss_sql_trees.specs.declared.typed.SelectItem.{SelectItem}
use Rattle.ss_sql_trees.specs.declared.typed.SelectItem.TheVariants.{Count, Sum, Min, Max, Plain}
use Rattle.ss_sql_trees.specs.declared.typed.Query.{Query}
use Rattle.ss_model.specs.Results.{OrAbort, ◌>>=◌, try_map, try_filter}
use Rattle.ss_model.specs.Queries.{where_passes, join_rows, join_source, item_value}
use Rattle.ss_model.specs.declared.run_error.RunError.{RunError}
use Rattle.ss_model.specs.Stops.{StopsAs}
use Rattle.ss_model.proofs.CallerLemmas.{stops_before}
use Rattle.ss_rows.specs.Adding.{onto}
use Rattle.ss_rows.specs.Counts.{is_count, CountsAlone, row_passing, CountedOn}
use Rattle.ss_rows.specs.Meaning.{passing, results_of}
use Rattle.ss_rows.specs.Sources.{Positioned, rows_in}
use Rattle.ss_rows.proofs.Adding.{Leaves}
use Rattle.ss_rows.proofs.Grouping.{rows_of_whole}
use Rattle.ss_rows.proofs.Passing.{Passes}
use Rattle.ss_rows.proofs.Walking.{Walked}

-- ---- one row

module _ (params : Row) (test : Option Expr) (outer : Row) where
  abbrev here : Rows
  here = outer ∷ []

  pub behind : (found : List Rows) (b : Bool) → where_passes params test here ≡ Ok b → onto found (row_passing params test outer) ≡ Ok (found ++ cond b (here ∷ []) [])
  behind found b is = ap (λ (answer : OrAbort Bool). onto found (answer >>= λ b. Ok (cond b (here ∷ []) []))) is

  pub one_passes : (count more : ℕ) → where_passes params test here ≡ Ok true → more ≡ count + 1 → CountedOn params test outer count more
  one_passes count more is grown = λ found many.
      let one : length (found ++ here ∷ []) ≡ length found + 1 = length-append found (here ∷ []) in
      (found ++ here ∷ [], behind found true is, omega (arith, one, many, grown))

  pub none_passes : (count : ℕ) → where_passes params test here ≡ Ok false → CountedOn params test outer count count
  none_passes count is = λ found many. (found ++ [], behind found false is, ap length (append-nil found) ∙ many)

  pub row_test_stops : (stop : RunError) → StopsAs (where_passes params test here) stop → StopsAs (row_passing params test outer) stop
  row_test_stops stop is = stops_before (where_passes params test here) (λ b. Ok (cond b (here ∷ []) [])) stop is

-- ---- the walk

-- without JOIN
pub passing_single : (rows : SourceId → Rows) (params : Row) (q : Query) → q.joined ≡ None → try_filter (where_passes params q.test) (join_rows (rows q.from) None) ≡ passing rows params q
passing_single rows params q single = ap (λ joined. try_filter (where_passes params q.test) (join_rows (rows q.from) (join_source rows joined))) (sym single)

-- at its end
pub counted_all : (p : Rows → OrAbort Bool) (meaning : OrAbort (List Rows)) (positioned : Positioned) (at : Option ℕ) (found : List Rows) → Passes p meaning None positioned at found → at ≡ None → meaning ≡ Ok found
counted_all p meaning positioned at found so_far none = by so_far.1 so_far.2 so_far.3
  where
    by : (behind : Positioned) → Walked positioned at so_far.0 behind → Leaves p meaning found (join_rows (rows_in behind) None) → meaning ≡ Ok found
    by [] w left = left ∙ ap Ok (append-nil found)
    by (b ∷ bs) w left = cc

-- ---- the row

counted_items : (params : Row) (found : List Rows) (items : List SelectItem) → list_all is_count items ≡ true → try_map (item_value params found) items ≡ Ok (replicate (length items) (Int (pos (length found))))
counted_items params found [] h = refl
counted_items params found (Count ∷ items) h = ap (λ (m : OrAbort Row). m >>= λ ys. Ok (Int (pos (length found)) ∷ ys)) (counted_items params found items h)
counted_items params found (Sum e ∷ items) h = absurd (true≢false (sym h))
counted_items params found (Min e ∷ items) h = absurd (true≢false (sym h))
counted_items params found (Max e ∷ items) h = absurd (true≢false (sym h))
counted_items params found (Plain e ∷ items) h = absurd (true≢false (sym h))

pub counted_results : (params : Row) (q : Query) → CountsAlone q → (found : List Rows) (row : Row) → row ≡ replicate (length q.items) (Int (pos (length found))) → results_of params q found ≡ Ok (row ∷ [])
counted_results params q alone found row is =
    sym (rows_of_whole params q q.items refl found alone.aggregated alone.whole)
    ∙ ap (λ (m : OrAbort Row). m >>= λ row. Ok (row ∷ [])) (counted_items params found q.items alone.items)
    ∙ ap (λ (row : Row). Ok (row ∷ [])) (sym is)
