-- SELECT COUNT(*), SUM(a), MIN(a), MAX(a) of a table of one column: the states before its first row, with two rows folded in, and
-- what they come to. Where no row passes WHERE, the MIN aborts.
use Rattle.std.proofs.Common.{◌≡◌, ℕ, ℤ, pos, Option, Some, None, List, [], ◌∷◌, refl, Ok, Err}
use Rattle.std.specs.Borrow.{Bor}
use Rattle.ss_value.specs.declared.value.Value.{Value}
use Rattle.ss_value.specs.declared.value.Value.TheVariants.{Int}
use Rattle.ss_value.specs.Rows.{Row, Rows}
use Rattle.ss_sql_trees.specs.declared.typed.Expr.{Expr}
use Rattle.ss_sql_trees.specs.declared.typed.Expr.TheVariants.{Col}
use Rattle.ss_sql_trees.specs.declared.typed.SourceId.TheVariants.{Table}
use Rattle.ss_sql_trees.specs.declared.typed.SelectItem.{SelectItem}
use Rattle.ss_sql_trees.specs.declared.typed.SelectItem.TheVariants.{Count, Sum, Min, Max}
use Rattle.ss_sql_trees.specs.declared.typed.Query.{Query}
use Rattle.ss_model.specs.declared.entry.Reason.TheVariants.{EmptyAggregate}
use Rattle.ss_model.specs.declared.extreme.Extreme.TheVariants.{Least, Greatest}
use Rattle.ss_rows.specs.Folds.{HasFolded, AreStatesOf, StartsFolding, folded_rows}
use Rattle.ss_rows.specs.Lent.{IsLent}
use Rattle.ss_rows.specs.declared.item_states.ItemState.{ItemState}
use Rattle.ss_rows.specs.declared.item_states.ItemState.TheVariants.{Counted, Totalled, Best}
use Rattle.ss_rows.proofs.Folds.{count_next, total_next, best_next}
use Rattle.ss_rows.proofs.Lent.{column_lent}

abbrev items : List SelectItem
items = Count ∷ Sum (Col 0 0) ∷ Min (Col 0 0) ∷ Max (Col 0 0) ∷ []

abbrev query : Query
query = record { items = items; from = Table 0; joined = None; test = None; groups = []; order = []; limit = None }

abbrev operand : Bor Expr
operand = record { ref_ptr = (0, 0); now = Col 0 0 }

lent : IsLent (Col 0 0)
lent = column_lent 0 0

abbrev states : ℕ → ℤ → Option (Bor Value) → Option (Bor Value) → List ItemState
states count total least greatest = Counted count ∷ Totalled operand total ∷ Best Least operand least ∷ Best Greatest operand greatest ∷ []

starts : StartsFolding query (states 0 (pos 0) None None)
starts = record { single = refl; whole = refl; aggregated = refl; first = λ params. (refl, (refl, ((lent, refl), ((lent, refl), ((lent, refl), tt))))) }

abbrev here : ℕ → Rows
here n = (Int (pos n) ∷ []) ∷ []

abbrev lend : ℕ → Bor Value
lend n = record { ref_ptr = (0, 0); now = Int (pos n) }

module _ (params : Row) where
  counted : HasFolded params (here 7 ∷ here 3 ∷ []) (Counted 2)
  counted = (count_next params (here 3) 1 2 refl).1 (here 7 ∷ []) ((count_next params (here 7) 0 1 refl).1 [] refl)

  totalled : HasFolded params (here 7 ∷ here 3 ∷ []) (Totalled operand (pos 10))
  totalled = (total_next params (here 3) operand (pos 7) (pos 10) refl).1 (here 7 ∷ []) ((total_next params (here 7) operand (pos 0) (pos 7) refl).1 [] (lent, refl))

  least : HasFolded params (here 7 ∷ here 3 ∷ []) (Best Least operand (Some (lend 3)))
  least = (best_next params (here 3) Least operand (Some (lend 7)) (lend 3) refl).1 (here 7 ∷ []) ((best_next params (here 7) Least operand None (lend 7) refl).1 [] (lent, refl))

  greatest : HasFolded params (here 7 ∷ here 3 ∷ []) (Best Greatest operand (Some (lend 7)))
  greatest = (best_next params (here 3) Greatest operand (Some (lend 7)) (lend 7) refl).1 (here 7 ∷ []) ((best_next params (here 7) Greatest operand None (lend 7) refl).1 [] (lent, refl))

  folded : AreStatesOf params items (here 7 ∷ here 3 ∷ []) (states 2 (pos 10) (Some (lend 3)) (Some (lend 7)))
  folded = (refl, (counted, (totalled, (least, (greatest, tt)))))

row : folded_rows (states 2 (pos 10) (Some (lend 3)) (Some (lend 7))) ≡ Ok ((Int (pos 2) ∷ Int (pos 10) ∷ Int (pos 3) ∷ Int (pos 7) ∷ []) ∷ [])
row = refl

no_row : folded_rows (states 0 (pos 0) None None) ≡ Err EmptyAggregate
no_row = refl
