-- Aggregates without a list of what is aggregated.
use Rattle.std.proofs.Common.{◌≡◌, ℕ, zero, suc, ◌+◌, ◌<◌, ◌≤◌, ℤ, ◌+ℤ◌, Bool, true, false, cond, Option, Some, None, List, [], ◌∷◌, ◌++◌, map, set, take, get_or, length, refl, ap, sym, ◌∙◌, subst, add-one, append-nil, pos, Ok, Err, arith}
use Rattle.std.proofs.Math.IntN.{+ℤ_comm, +ℤ_assoc}
use Rattle.std.proofs.Math.Seq.{map-set_same}
use Rattle.std.proofs.lemmas.List.{length-append, map-append, take_more}
use Rattle.std.proofs.lemmas.List.Sums.{fold-append}
use Rattle.std.specs.Borrow.{Bor}
use Rattle.std.specs.List.{AllByRecursion}
use Rattle.std.specs.declared.cmp.Ordering.{Ordering}
use Rattle.ss_value.specs.declared.value.Value.{Value}
use Rattle.ss_value.specs.declared.value.Value.TheVariants.{Int}
use Rattle.ss_value.specs.Rows.{Row, Rows}
use Rattle.ss_value.specs.Order.{value_cmp}
use Rattle.ss_sql_trees.specs.declared.typed.Expr.{Expr}
use Rattle.ss_sql_trees.specs.declared.typed.SelectItem.{SelectItem}
use Rattle.ss_sql_trees.specs.declared.typed.Query.{Query}
use Rattle.ss_model.specs.declared.extreme.Extreme.{Extreme}
use Rattle.ss_model.specs.declared.extreme.Extreme.TheVariants.{Least, Greatest}
use Rattle.ss_model.specs.Extremes.{beats}
use Rattle.ss_model.specs.Results.{OrAbort, ◌>>=◌, try_map}
use Rattle.ss_model.specs.Expressions.{int_of, checked_int, expr_value}
use Rattle.ss_model.specs.Queries.{where_passes, item_value, sum_values, extreme_value}
use Rattle.ss_rows.specs.Aggregates.{group_values, group_total, group_extreme}
use Rattle.ss_rows.specs.Folds.{item_of, so_far, outcome, folded_rows, HasFolded, AreStatesOf, IsFirst, IsNext, TupleFolded, RowFolded, StartsFolding}
use Rattle.ss_rows.specs.Lent.{lent_value, IsLent}
use Rattle.ss_rows.specs.Meaning.{results_of}
use Rattle.ss_rows.specs.declared.item_states.ItemState.{ItemState}
use Rattle.ss_rows.specs.declared.item_states.ItemState.TheVariants.{Counted, Totalled, Best}
use Rattle.ss_rows.proofs.Counts.{behind}
use Rattle.ss_rows.proofs.Grouping.{rows_of_whole}
use Rattle.ss_rows.proofs.Lent.{all_given}

-- ---- one value more

sum_more : (vs : List Value) (v : Value) → sum_values (vs ++ v ∷ []) ≡ sum_values vs +ℤ int_of v
sum_more [] v = +ℤ_comm (int_of v) (pos 0)
sum_more (w ∷ vs) v = ap (λ n. int_of w +ℤ n) (sum_more vs v) ∙ sym (+ℤ_assoc (int_of w) (sum_values vs) (int_of v))

module _ (wins : Ordering → Bool) (v : Value) where
  -- the best of the values so far, if any, and of this one
  abbrev with_one : OrAbort Value → OrAbort Value
  with_one (Ok best) = Ok (cond (wins (value_cmp v best)) v best)
  with_one (Err r) = Ok v

  extreme_one : (vs : List Value) → extreme_value wins (vs ++ v ∷ []) ≡ with_one (extreme_value wins vs)
  extreme_one [] = refl
  extreme_one (x ∷ vs) = ap Ok (fold-append (λ b x. cond (wins (value_cmp x b)) x b) x vs (v ∷ []))

  -- where the best of two lists is the same, it is the same with one value more behind each
  extreme_more : (vs ws : List Value) → extreme_value wins vs ≡ extreme_value wins ws → extreme_value wins (vs ++ v ∷ []) ≡ extreme_value wins (ws ++ v ∷ [])
  extreme_more vs ws same = extreme_one vs ∙ ap with_one same ∙ sym (extreme_one ws)

-- ---- one tuple more

-- the values of an operand that is lent
module _ (params : Row) (operand : Expr) (lent : IsLent operand) where
  abbrev value_on : Rows → Value
  value_on here = lent_value params here operand

  values_are : (found : List Rows) → group_values params operand found ≡ Ok (map value_on found)
  values_are found = all_given (λ here. expr_value here params operand) value_on (λ here. lent here params) found

  total_is : (found : List Rows) → group_total params operand found ≡ Ok (sum_values (map value_on found))
  total_is found = ap (λ (m : OrAbort (List Value)). m >>= λ vs. Ok (sum_values vs)) (values_are found)

  extreme_is : (extreme : Extreme) (found : List Rows) → group_extreme extreme params operand found ≡ extreme_value (beats extreme) (map value_on found)
  extreme_is extreme found = ap (λ (m : OrAbort (List Value)). m >>= extreme_value (beats extreme)) (values_are found)

  module _ (found : List Rows) (here : Rows) where
    grown : map value_on (found ++ here ∷ []) ≡ map value_on found ++ value_on here ∷ []
    grown = map-append value_on found (here ∷ [])

    total_more : (total : ℤ) → group_total params operand found ≡ Ok total → group_total params operand (found ++ here ∷ []) ≡ Ok (total +ℤ int_of (value_on here))
    total_more total is =
        total_is (found ++ here ∷ [])
        ∙ ap (λ (vs : List Value). Ok (sum_values vs)) grown
        ∙ ap Ok (sum_more (map value_on found) (value_on here))
        ∙ ap (λ (m : OrAbort ℤ). m >>= λ n. Ok (n +ℤ int_of (value_on here))) (sym (total_is found) ∙ is)

    best_more : (extreme : Extreme) (best : Option (Bor Value)) → group_extreme extreme params operand found ≡ extreme_value (beats extreme) (so_far best) → group_extreme extreme params operand (found ++ here ∷ []) ≡ extreme_value (beats extreme) (so_far best ++ value_on here ∷ [])
    best_more extreme best is =
        extreme_is extreme (found ++ here ∷ [])
        ∙ ap (extreme_value (beats extreme)) grown
        ∙ extreme_more (beats extreme) (value_on here) (map value_on found) (so_far best) (sym (extreme_is extreme found) ∙ is)

module _ (params : Row) (here : Rows) where
  pub count_next : (count more : ℕ) → more ≡ count + 1 → IsNext params here (Counted count) (Counted more)
  count_next count more grown = (refl, next)
    where
      next : (found : List Rows) → count ≡ length found → more ≡ length (found ++ here ∷ [])
      next found is =
          let one : length (found ++ here ∷ []) ≡ length found + 1 = length-append found (here ∷ []) in
          omega (arith, one, is, grown)

  pub total_next : (operand : Bor Expr) (total more : ℤ) → more ≡ total +ℤ int_of (lent_value params here operand.now) → IsNext params here (Totalled operand total) (Totalled operand more)
  total_next operand total more grown = (refl, λ found is. (is.0, total_more params operand.now is.0 found here total is.1 ∙ ap Ok (sym grown)))

  pub best_next : (extreme : Extreme) (operand : Bor Expr) (best : Option (Bor Value)) (now : Bor Value) → extreme_value (beats extreme) (so_far best ++ lent_value params here operand.now ∷ []) ≡ Ok now.now → IsNext params here (Best extreme operand best) (Best extreme operand (Some now))
  best_next extreme operand best now is = (same extreme, λ found folded. (folded.0, best_more params operand.now folded.0 found here extreme best folded.1 ∙ is))
    where
      same : (extreme : Extreme) → item_of (Best extreme operand (Some now)) ≡ item_of (Best extreme operand best)
      same Least = refl
      same Greatest = refl

-- ---- the same of each state

-- the first i of a list are such as Q says, and the others are still such as P says
module _ {A : Type 0} (P Q : A → Type 0) where
  abbrev pub Between : ℕ → List A → Type 0
  Between zero xs = AllByRecursion P xs
  Between (suc i) [] = Unit {0}
  Between (suc i) (x ∷ xs) = Q x × Between i xs

  pub between_at : (i : ℕ) (xs : List A) (d : A) → Between i xs → i < length xs → P (get_or xs i d)
  between_at zero [] d all lt = absurd (omega arith)
  between_at zero (x ∷ xs) d all lt = all.0
  between_at (suc i) [] d all lt = absurd (omega arith)
  between_at (suc i) (x ∷ xs) d all lt = between_at i xs d all.1 (omega arith)

  pub between_more : (i : ℕ) (xs : List A) (y : A) → Between i xs → i < length xs → Q y → Between (suc i) (set xs i y)
  between_more zero [] y all lt is = absurd (omega arith)
  between_more zero (x ∷ xs) y all lt is = (is, all.1)
  between_more (suc i) [] y all lt is = absurd (omega arith)
  between_more (suc i) (x ∷ xs) y all lt is = (all.0, between_more i xs y all.1 (omega arith) is)

  pub between_all : (i : ℕ) (xs : List A) → Between i xs → length xs ≤ i → AllByRecursion Q xs
  between_all zero [] all le = tt
  between_all zero (x ∷ xs) all le = absurd (omega arith)
  between_all (suc i) [] all le = tt
  between_all (suc i) (x ∷ xs) all le = (all.0, between_all i xs all.1 (omega arith))

-- the first i states have folded this tuple too, and the others haven't yet
abbrev pub FoldedUpto : Row → Rows → List ItemState → ℕ → List ItemState → Type 0
FoldedUpto params here old i states =
    (map item_of states ≡ map item_of old)
    × ((found : List Rows) → AllByRecursion (HasFolded params found) old → Between (HasFolded params found) (HasFolded params (found ++ here ∷ [])) i states)

module _ (params : Row) (here : Rows) (old : List ItemState) (i : ℕ) (states : List ItemState) (folded : FoldedUpto params here old i states) where
  pub folded_more : (state next : ItemState) → i < length states → state ≡ get_or states i state → IsNext params here state next → FoldedUpto params here old (i + 1) (set states i next)
  folded_more state next lt is step = (
    map-set_same item_of states i next state (step.0 ∙ ap item_of is) ∙ folded.0,
    λ found all.
        let P = HasFolded params found in
        let Q = HasFolded params (found ++ here ∷ []) in
        let before = folded.1 found all in
        let done : Q next = step.1 found (subst P (sym is) (between_at P Q i states state before lt)) in
        subst (λ n. Between P Q n (set states i next)) (sym (add-one i)) (between_more P Q i states next before lt done),
  )

  pub folded_upto_all : length states ≤ i → TupleFolded params here old states
  folded_upto_all past = λ items found are. (
    folded.0 ∙ are.0,
    between_all (HasFolded params found) (HasFolded params (found ++ here ∷ [])) i states (folded.1 found are.1) past,
  )

-- ---- one row

module _ (params : Row) (test : Option Expr) (outer : Row) where
  abbrev here : Rows
  here = outer ∷ []

  pub row_passes : (old new : List ItemState) → where_passes params test here ≡ Ok true → TupleFolded params here old new → RowFolded params test outer old new
  row_passes old new is folded = λ items found are. (found ++ here ∷ [], behind params test outer found true is, folded items found are)

  pub row_fails : (states : List ItemState) → where_passes params test here ≡ Ok false → RowFolded params test outer states states
  row_fails states is = λ items found are. (found, behind params test outer found false is ∙ ap Ok (append-nil found), are)

-- ---- the end

total_checked : (values : OrAbort (List Value)) (total : ℤ) → (values >>= λ vs. Ok (sum_values vs)) ≡ Ok total → (values >>= λ vs. checked_int (sum_values vs)) ≡ checked_int total
total_checked (Ok vs) total is = ap (λ (m : OrAbort ℤ). m >>= checked_int) is
total_checked (Err r) total is = ap (λ (m : OrAbort ℤ). m >>= checked_int) is

module _ (params : Row) (found : List Rows) where
  -- a state comes to the value of its item
  pub comes_to : (state : ItemState) → HasFolded params found state → item_value params found (item_of state) ≡ outcome state
  comes_to (Counted count) is = ap (λ n. Ok (Int (pos n))) (sym is)
  comes_to (Totalled operand total) is = total_checked (group_values params operand.now found) total is.1
  comes_to (Best Least operand best) is = is.1
  comes_to (Best Greatest operand best) is = is.1

  all_come_to : (states : List ItemState) → AllByRecursion (HasFolded params found) states → try_map (item_value params found) (map item_of states) ≡ try_map outcome states
  all_come_to [] all = refl
  all_come_to (s ∷ ss) all = λ j. comes_to s all.0 j >>= λ y. all_come_to ss all.1 j >>= λ ys. Ok (y ∷ ys)

-- and the states of all items to the query's one row
pub rows_come_to : (params : Row) (q : Query) (first states : List ItemState) → StartsFolding q first → (found : List Rows) → AreStatesOf params q.items found states → results_of params q found ≡ folded_rows states
rows_come_to params q first states starts found are =
    sym (rows_of_whole params q q.items refl found starts.aggregated starts.whole)
    ∙ ap (λ (items : List SelectItem). try_map (item_value params found) items >>= λ row. Ok (row ∷ [])) (sym are.0)
    ∙ ap (λ (m : OrAbort Row). m >>= λ row. Ok (row ∷ [])) (all_come_to params found states are.1)

-- ---- the beginning

all_push : {A : Type 0} (P : A → Type 0) (xs : List A) (x : A) → AllByRecursion P xs → P x → AllByRecursion P (xs ++ x ∷ [])
all_push P [] x all is = (is, tt)
all_push P (y ∷ xs) x all is = (all.0, all_push P xs x all.1 is)

-- the first state of one item more
pub states_more : (items : List SelectItem) (i : ℕ) (item : SelectItem) → i < length items → item ≡ get_or items i item → (old new : List ItemState) (state : ItemState) → ((params : Row) → AreStatesOf params (take i items) [] old) → IsFirst item state → new ≡ old ++ state ∷ [] → (params : Row) → AreStatesOf params (take (i + 1) items) [] new
states_more items i item lt is old new state are first grown params =
    let P = HasFolded params [] in (
      ap (map item_of) grown
          ∙ map-append item_of old (state ∷ [])
          ∙ (λ j. (are params).0 j ++ first.0 j ∷ [])
          ∙ ap (λ x. take i items ++ x ∷ []) is
          ∙ sym (take_more items i item lt),
      subst (AllByRecursion P) (sym grown) (all_push P old state (are params).1 (first.1 params)),
    )
