-- Rows that were put in place of others and have their pairs, where a note is added or taken off.
use Rattle.std.proofs.Common.{◌≡◌, ℕ, List, [], ◌∷◌, ◌++◌, Bool, true, refl, sym, ap, subst, ◌∙◌, Option, Some, None, option_map, slice_get, slice_set}
use Rattle.std.specs.Option.{IfSome}
use Rattle.std.specs.List.{AllByRecursion}
use Rattle.std.specs.Cmp.{eq_by_cmp_equiv}
use Rattle.std.proofs.lemmas.Bool.{and_from}
use Rattle.std.proofs.lemmas.Option.{slice_get-map}
use Rattle.ss_lemmas.proofs.Bools.{first_of_two, second_of_two}
use Rattle.ss_lemmas.proofs.EachOf.{all_with}
use Rattle.ss_lemmas.proofs.Results.{some_so}
use Rattle.ss_value.specs.Rows.{Row, column_value, column_values}
use Rattle.ss_value.specs.Order.{values_equal}
use Rattle.ss_value.specs.ValueOrder.{value_cmp_total}
use Rattle.ss_value.proofs.CallerLemmas.{same_value}
use Rattle.ss_table.specs.TableValue.{TableValue as Table, row_at}
use Rattle.ss_table.specs.Steps.{WasReplaced}
use Rattle.ss_table.proofs.CallerLemmas.{get_set_same}
use Rattle.ss_index.specs.Pairs.{agree_on}
use Rattle.ss_index.specs.Indexes.{agree_in}
use Rattle.ss_undo.specs.declared.change.Change.{Change}
use Rattle.ss_undo.specs.declared.change.Change.TheVariants.{Inserted, Deleted, Replaced, Amended, Staged}
use Rattle.ss_undo.specs.ResultsFrom.{Step}
use Rattle.ss_undo.specs.Completion.{rollback_change}
use Rattle.ss_undo.specs.Indexed.{Group, columns_in, columns_of}
use Rattle.ss_undo.specs.Staying.{HaveSamePairs, HasPairsOf, HasStayed, all_rolled_back, HaveStayed}
use Rattle.ss_undo.proofs.Back.{step_back}

-- ---- two rows with the same pairs

values_agree : (columns : List ℕ) (a b : Row) → agree_on columns a b ≡ true → column_values columns a ≡ column_values columns b
values_agree [] a b e = refl
values_agree (c ∷ cs) a b e =
    let first : column_value a c ≡ column_value b c = same_value _ _ (first_of_two (values_equal (column_value a c) (column_value b c)) (agree_on cs a b) e) in
    let rest = values_agree cs a b (second_of_two (values_equal (column_value a c) (column_value b c)) (agree_on cs a b) e) in
    λ i. first i ∷ rest i

values_same : (columns : List ℕ) (a b : Row) → column_values columns a ≡ column_values columns b → agree_on columns a b ≡ true
values_same [] a b e = refl
values_same (c ∷ cs) a b e =
    let first : column_value a c ≡ column_value b c = cc in
    let rest : column_values cs a ≡ column_values cs b = cc in
    and_from (values_equal (column_value a c) (column_value b c)) (agree_on cs a b)
    (ap (values_equal (column_value a c)) (sym first) ∙ (eq_by_cmp_equiv value_cmp_total).refl (column_value a c)) (values_same cs a b rest)

-- by the comparison of an index each
agreed : (a b : Row) (group : Group) → agree_in a b group ≡ true → HaveSamePairs a b (columns_in group)
agreed a b [] e = tt
agreed a b (i ∷ is) e = (values_agree i.columns a b (first_of_two (agree_on i.columns a b) (agree_in a b is) e), agreed a b is (second_of_two (agree_on i.columns a b) (agree_in a b is) e))

agreeing : (a b : Row) (group : Group) → HaveSamePairs a b (columns_in group) → agree_in a b group ≡ true
agreeing a b [] same = refl
agreeing a b (i ∷ is) same = and_from (agree_on i.columns a b) (agree_in a b is) (values_same i.columns a b same.0) (agreeing a b is same.1)

turned : (a b : Row) (columns : List (List ℕ)) → HaveSamePairs a b columns → HaveSamePairs b a columns
turned a b columns same = all_with (λ cs. column_values cs a ≡ column_values cs b) (λ cs. column_values cs b ≡ column_values cs a) (λ cs e. sym e) columns same

-- ---- options

module _ {A : Type 0} where
  if_such : (o : Option A) (P : A → Type 0) → ((x : A) → o ≡ Some x → P x) → IfSome o P
  if_such None P each = tt
  if_such (Some x) P each = each x refl

  if_is : (o : Option A) (x : A) (P : A → Type 0) → o ≡ Some x → IfSome o P → P x
  if_is o x P e h = subst (λ o. IfSome o P) e h

  if_from : (o : Option A) (x : A) (P : A → Type 0) → o ≡ Some x → P x → IfSome o P
  if_from o x P e p = subst (λ o. IfSome o P) (sym e) p

-- ---- the row that stands

module _ (columns : List (List (List ℕ))) (tables : List Table) (t slot : ℕ) (was : Table) (here : slice_get tables t ≡ Some was) where
  -- a row that has the pairs of this one, which stands
  pub pairs_of : (standing row : Row) → row_at was.live slot ≡ Some standing → HasPairsOf columns tables t slot row → IfSome (slice_get columns t) (HaveSamePairs row standing)
  pairs_of standing row at has =
      if_is (row_at was.live slot) standing (λ s. IfSome (slice_get columns t) (HaveSamePairs row s)) at
      (if_is (slice_get tables t) was (λ h. IfSome (row_at h.live slot) (λ s. IfSome (slice_get columns t) (HaveSamePairs row s))) here has)

  -- and this one has those of a row that has its
  pub pairs_back : (standing row : Row) → row_at was.live slot ≡ Some standing → HasPairsOf columns tables t slot row → IfSome (slice_get columns t) (HaveSamePairs standing row)
  pairs_back standing row at has = some_so (slice_get columns t) (HaveSamePairs row standing) (HaveSamePairs standing row) (λ cs same. turned row standing cs same) (pairs_of standing row at has)

  -- a row in place of one that has its pairs
  pub put_stays : (now : Table) (before : Row) (w : WasReplaced was now slot before) → IfSome (slice_get columns t) (HaveSamePairs before w.row) → HasStayed columns (slice_set tables t now) (Amended t slot before)
  put_stays now before w same =
      if_from (slice_get (slice_set tables t now) t) now (λ h. IfSome (row_at h.live slot) (λ s. IfSome (slice_get columns t) (HaveSamePairs before s))) (get_set_same tables t now was here)
      (if_from (row_at now.live slot) w.row (λ s. IfSome (slice_get columns t) (HaveSamePairs before s)) w.there same)

-- whether a row has the pairs of the one that stands, by the comparison of an index each
module _ (indexes : List Group) (tables : List Table) (t slot : ℕ) (row : Row) (h : Table) (here : slice_get tables t ≡ Some h) (standing : Row) (at : row_at h.live slot ≡ Some standing) (group : Group) (has : slice_get indexes t ≡ Some group) where
  listed : slice_get (columns_of indexes) t ≡ Some (columns_in group)
  listed = slice_get-map columns_in indexes t ∙ ap (option_map columns_in) has

  pub has_so : agree_in row standing group ≡ true → HasPairsOf (columns_of indexes) tables t slot row
  has_so e = if_from (slice_get tables t) h _ here (if_from (row_at h.live slot) standing _ at (if_from (slice_get (columns_of indexes) t) (columns_in group) _ listed (agreed row standing group e)))

  pub agrees_so : HasPairsOf (columns_of indexes) tables t slot row → agree_in row standing group ≡ true
  agrees_so same = agreeing row standing group (if_is (slice_get (columns_of indexes) t) (columns_in group) (HaveSamePairs row standing) listed (pairs_of (columns_of indexes) tables t slot h here standing row at same))

-- ---- lists of changes

rolled_last : (tables : List Table) (cs : List Change) (c : Change) → all_rolled_back tables (cs ++ c ∷ []) ≡ all_rolled_back (rollback_change tables c) cs
rolled_last tables [] c = refl
rolled_last tables (d ∷ ds) c = ap (λ ts. rollback_change ts d) (rolled_last tables ds c)

-- the last one, and those before it
pub last_stayed : (columns : List (List (List ℕ))) (tables : List Table) (cs : List Change) (c : Change) → HaveStayed columns tables (cs ++ c ∷ []) → HasStayed columns tables c × HaveStayed columns (rollback_change tables c) cs
last_stayed columns tables [] c s = (s.0, tt)
last_stayed columns tables (d ∷ ds) c s = let r = last_stayed columns tables ds c s.1 in (r.0, (subst (λ ts. HasStayed columns ts d) (rolled_last tables ds c) s.0, r.1))

one_more : (columns : List (List (List ℕ))) (tables : List Table) (cs : List Change) (c : Change) → HaveStayed columns (rollback_change tables c) cs → HasStayed columns tables c → HaveStayed columns tables (cs ++ c ∷ [])
one_more columns tables [] c s p = (p, tt)
one_more columns tables (d ∷ ds) c s p = (subst (λ ts. HasStayed columns ts d) (sym (rolled_last tables ds c)) s.0, one_more columns tables ds c s.1 p)

-- a change that is made and noted behind the others
pub noted_stayed : (columns given : List (List (List ℕ))) (before now : List Table) (cs items : List Change) (c : Change) → given ≡ columns → items ≡ cs ++ c ∷ [] → HaveStayed columns before cs → Step before c now → HasStayed columns now c → HaveStayed given now items
noted_stayed columns given before now cs items c same is s step p =
    subst (λ ks. HaveStayed ks now items) (sym same)
    (subst (λ xs. HaveStayed columns now xs) (sym is) (one_more columns now cs c (subst (λ ts. HaveStayed columns ts cs) (sym (step_back before now c step).1) s) p))

-- where no table has an index
none_listed : (tables : List Table) (c : Change) → HasStayed [] tables c
none_listed tables (Inserted table slot) = tt
none_listed tables (Deleted table slot) = tt
none_listed tables (Replaced table slot row) = tt
none_listed tables (Amended table slot row) =
    if_such (slice_get tables table) (λ h. IfSome (row_at h.live slot) (λ s. IfSome (slice_get [] table) (HaveSamePairs row s)))
    (λ h e. if_such (row_at h.live slot) (λ s. IfSome (slice_get [] table) (HaveSamePairs row s)) (λ s f. tt))
none_listed tables (Staged window) = tt

pub without_indexes : (tables : List Table) (cs : List Change) → HaveStayed [] tables cs
without_indexes tables [] = tt
without_indexes tables (c ∷ cs) = (none_listed (all_rolled_back tables cs) c, without_indexes tables cs)
