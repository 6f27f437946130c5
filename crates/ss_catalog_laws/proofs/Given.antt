-- Values of an `insert` step, and a return of a whole table, are well typed.
use Rattle.std.proofs.Common.{◌≡◌, ◌<◌, ◌≤◌, ◌+◌, ◌==◌, ℕ, zero, suc, Bool, true, false, cond, List, [], ◌∷◌, map, length, Option, Some, None, refl, sym, ap, ◌∙◌, arith}
use Rattle.std.specs.Prelude.{slice_get, nat_le}
use Rattle.std.specs.List.{list_all, list_any, zip, range_with_len}
use Rattle.std.specs.Option.{option_map}
use Rattle.std.proofs.lemmas.Bool.{and_parts, and_from, eqb-true, le-leb}
use Rattle.std.proofs.lemmas.List.FromFn.{length-map-range_with_len}
use Rattle.std.proofs.lemmas.Option.{slice_get-get_or}
use Rattle.ss_sql_type.proofs.CallerLemmas.{column_kind_value}
use Rattle.ss_value.specs.declared.value.Value.{Value}
use Rattle.ss_value.specs.declared.value.Value.TheVariants.{Int, Text}
use Rattle.ss_value.specs.declared.schema.ColType.{ColType}
use Rattle.ss_value.specs.declared.schema.ColType.TheVariants.{Int as IntColumn, Text as TextColumn}
use Rattle.ss_value.specs.declared.schema.Column.{Column}
use Rattle.ss_value.specs.Fit.{fits_kind}
use Rattle.ss_sql_trees.specs.declared.typed.Expr.TheFolds.{fold-roll-Expr}
use Rattle.ss_sql_trees.specs.declared.typed.Expr.TheOpen.{Expr-F}
use Rattle.ss_sql_trees.specs.declared.typed.Expr.TheVariants.{Lit, Col, rolls-Lit}
use Rattle.ss_sql_trees.specs.declared.typed.SourceId.TheVariants.{Table as FromTable}
use Rattle.ss_sql_trees.specs.WellTyped.{ExprType, Schemas, is_type, is_value_type, column_type, value_type, level_type, expr_type, item_type, is_aggregate, types_fit, query_typed}
use Rattle.ss_model.proofs.CallerLemmas.{param_type, source_type}
use Rattle.ss_catalog_outline.specs.declared.types.GivenOutline.{GivenOutline}
use Rattle.ss_catalog_outline.specs.declared.types.GivenOutline.TheVariants.{Value as GivenValue, Arg as GivenArg}
use Rattle.ss_catalog_resolve.specs.Numbers.{column_number}
use Rattle.ss_catalog_resolve.specs.declared.fault.SqlFault.{SqlFault}
use Rattle.ss_catalog_resolve.specs.Steps.{is_same_kind, is_of_kind, given_expr, is_given_kind, given_fault, column_item, whole_table}

-- ---- values

lit_type : (args : List Column) (v : Value) → expr_type [] args (Lit v) ≡ Some (value_type v)
lit_type args v = ap (expr_type [] args) (sym (rolls-Lit v)) ∙ fold-roll-Expr (Option ExprType) (level_type [] args) (Expr-F.Lit v)

value_typed : (kind : ColType) (v : Value) → fits_kind kind v ≡ true → is_type (column_type kind) (Some (value_type v)) ≡ true
value_typed IntColumn (Int n) h = refl
value_typed IntColumn (Text s) h = absurd cc
value_typed TextColumn (Int n) h = absurd cc
value_typed TextColumn (Text s) h = refl

same_typed : (kind other : ColType) → is_same_kind kind other ≡ true → is_type (column_type kind) (Some (column_type other)) ≡ true
same_typed IntColumn IntColumn h = refl
same_typed IntColumn TextColumn h = absurd cc
same_typed TextColumn IntColumn h = absurd cc
same_typed TextColumn TextColumn h = refl

argument_typed : (kind : ColType) (o : Option Column) → is_of_kind kind o ≡ true → is_type (column_type kind) (option_map (λ (d : Column). column_type d.kind) o) ≡ true
argument_typed kind None h = absurd cc
argument_typed kind (Some d) h = same_typed kind d.kind h

module _ (args : List Column) where
  given_typed : (kind : ColType) (g : GivenOutline) → is_given_kind args kind g ≡ true → is_type (column_type kind) (expr_type [] args (given_expr args g)) ≡ true
  given_typed kind (GivenValue v) h = rw (lit_type args v) (value_typed kind v h)
  given_typed kind (GivenArg name) h = rw (param_type [] args (column_number args name)) (argument_typed kind (slice_get args (column_number args name)) h)

  abbrev fits_its_column : Column × GivenOutline → Bool
  fits_its_column x = is_given_kind args x.0.kind x.1

  givens_fit : (columns : List Column) (values : List GivenOutline) → length values ≡ length columns → list_all fits_its_column (zip columns values) ≡ true → types_fit (map (expr_type [] args) (map (given_expr args) values)) columns ≡ true
  givens_fit [] [] n h = refl
  givens_fit (c ∷ cs) [] n h = absurd (omega arith)
  givens_fit [] (g ∷ gs) n h = absurd (omega arith)
  givens_fit (c ∷ cs) (g ∷ gs) n h =
      let parts = and_parts (is_given_kind args c.kind g) (list_all fits_its_column (zip cs gs)) h in
      let fewer : length gs ≡ length cs = omega arith in
      and_from _ _ (given_typed c.kind g parts.0) (givens_fit cs gs fewer parts.1)

  no_fault_then : (b : Bool) (f : SqlFault) (rest : Option SqlFault) → cond b rest (Some f) ≡ None → (b ≡ true) × (rest ≡ None)
  no_fault_then true f rest e = (refl, e)
  no_fault_then false f rest e = absurd cc

  -- values without a fault fit the columns
  pub values_fit : (columns : List Column) (values : List GivenOutline) → given_fault args columns values ≡ None → types_fit (map (expr_type [] args) (map (given_expr args) values)) columns ≡ true
  values_fit columns values e =
      let count = no_fault_then (length values == length columns) _ _ e in
      let kinds = no_fault_then (list_all fits_its_column (zip columns values)) _ _ count.1 in
      givens_fit columns values (eqb-true (length values) (length columns) count.0) kinds.0

-- ---- all columns of a table

missing : (columns : List Column) (c : ℕ) → slice_get columns c ≡ None → c < length columns → ⊥
missing [] c is within = omega arith
missing (d ∷ ds) c is within = let some = slice_get-get_or (d ∷ ds) c d within in cc

there : (columns : List Column) (c : ℕ) (o : Option Column) → slice_get columns c ≡ o → c < length columns → is_value_type (option_map (λ (d : Column). column_type d.kind) o) ≡ true
there columns c (Some d) is within = column_kind_value d.kind
there columns c None is within = absurd (missing columns c is within)

column_typed : (columns args : List Column) (c : ℕ) → c < length columns → is_value_type (expr_type (columns ∷ []) args (Col 0 c)) ≡ true
column_typed columns args c within = rw (source_type (columns ∷ []) args 0 c) (there columns c (slice_get columns c) refl within)

items_typed : (columns args : List Column) (c n : ℕ) → c + n ≤ length columns → list_all is_value_type (map (item_type (columns ∷ []) args) (map column_item (range_with_len c n))) ≡ true
items_typed columns args c zero h = refl
items_typed columns args c (suc n) h =
    let within : c < length columns = omega arith in
    let more : (c + 1) + n ≤ length columns = omega arith in
    and_from _ _ (column_typed columns args c within) (items_typed columns args (c + 1) n more)

items_plain : (c n : ℕ) → list_any is_aggregate (map column_item (range_with_len c n)) ≡ false
items_plain c zero = refl
items_plain c (suc n) = items_plain (c + 1) n

-- a return of all 16 columns or fewer
pub whole_typed : (s : Schemas) (t : ℕ) (columns : List Column) → s.sources (FromTable t) ≡ columns → length columns ≤ 16 → query_typed s (whole_table t columns) ≡ true
whole_typed s t columns same few =
    let n = length columns in
    let items = map column_item (range_with_len 0 n) in
    let long : length items ≡ n = length-map-range_with_len column_item 0 n in
    let values : list_all is_value_type (map (item_type (s.sources (FromTable t) ∷ []) s.params) items) ≡ true = ap (λ (cs : List Column). list_all is_value_type (map (item_type (cs ∷ []) s.params) items)) same ∙ items_typed columns s.params 0 n (omega arith) in
    let count : nat_le (length items) 16 ≡ true = le-leb (length items) 16 (omega arith) in
    rw (values, items_plain 0 n, count) refl
