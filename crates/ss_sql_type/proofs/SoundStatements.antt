-- A statement or a condition without faults is well typed.
use Rattle.std.proofs.Common.{◌≡◌, ℕ, refl, sym, ap, ◌∙◌, subst, Bool, true, false, List, [], ◌∷◌, ◌++◌, map, Option, Some, None, get_or, length, inl, inr, eqb-true}
use Rattle.std.specs.Prelude.{find, ◌&&◌, ◌==◌, not, cond, is_some, unwrap_or}
use Rattle.std.specs.Option.{option_map}
use Rattle.std.proofs.lemmas.Bool.{and_from, and_parts}
use Rattle.ss_lemmas.proofs.Results.{some_is}
use Rattle.ss_lemmas.proofs.Counts.{empty_left, empty_right}
use Rattle.ss_value.specs.declared.schema.Column.{Column}
use Rattle.ss_sql_lex.specs.declared.tree.ExprTree.{ExprTree}
use Rattle.ss_sql_lex.specs.declared.tree.SetTree.{SetTree}
use Rattle.ss_sql_lex.specs.declared.tree.QueryTree.{QueryTree}
use Rattle.ss_sql_lex.specs.declared.tree.StatementTree.{StatementTree}
use Rattle.ss_sql_lex.specs.declared.tree.StatementTree.TheVariants as tree
use Rattle.ss_sql_trees.specs.declared.typed.SourceId.{SourceId}
use Rattle.ss_sql_trees.specs.declared.typed.SourceId.TheVariants as source
use Rattle.ss_sql_trees.specs.declared.typed.Target.{Target}
use Rattle.ss_sql_trees.specs.declared.typed.Target.TheVariants as target
use Rattle.ss_sql_trees.specs.WellTyped.{ExprType, Schemas, schema_type, expr_type, test_typed, types_fit, has_type, is_among, sets_typed, query_typed, query_types, statement_typed}
use Rattle.ss_sql_type.specs.declared.scope.Named.{Named}
use Rattle.ss_sql_type.specs.declared.scope.Scope.{Scope}
use Rattle.ss_sql_type.specs.declared.scope.TypeError.TheVariants.{KeyIsSet, WrongCount}
use Rattle.ss_sql_type.specs.declared.kinds.ValueKind.{ValueKind}
use Rattle.ss_sql_type.specs.declared.kinds.Needs.TheVariants.{Only}
use Rattle.ss_sql_type.specs.Refusals.{fault_unless}
use Rattle.ss_sql_type.specs.Names.{same_name, columns_of, source_columns}
use Rattle.ss_sql_type.specs.Expressions.{expr_faults}
use Rattle.ss_sql_type.specs.Items.{typed_value, values_faults, test_faults}
use Rattle.ss_sql_type.specs.Queries.{unknown_faults, count_faults, wanted_columns, query_faults, typed_query}
use Rattle.ss_sql_type.specs.Statements.{target_of, table_of, insert_target, table_named, target_or_first, table_or_first, columns_in, key_of, bare, of_table, has, column_faults, kind_needs, set_needs, with_column, set_column, set_faults, sets_faults, typed_set, insert_faults, statement_faults, typed_statement}
use Rattle.ss_sql_type.specs.Agrees.{Agrees}
use Rattle.ss_sql_type.proofs.Sound.{no_fault, named_kind, Covers}
use Rattle.ss_sql_type.proofs.SoundQueries.{found_there, known_source, placed_sound, test_sound, values_fit, one_covered, query_sound, query_fits}

-- ---- targets

-- what a search finds passes its test
passes_step : (b : Bool) (x n : Named) (test : Named → Bool) (o : Option Named) → test x ≡ b → (o ≡ Some n → test n ≡ true) → cond b (Some x) o ≡ Some n → test n ≡ true
passes_step true x n test o is rest e = let same : x ≡ n = cc in subst (λ (y : Named). test y ≡ true) same is
passes_step false x n test o is rest e = rest e

found_passes : (list : List Named) (test : Named → Bool) (n : Named) → find test list ≡ Some n → test n ≡ true
found_passes [] test n e = absurd cc
found_passes (x ∷ list) test n e = passes_step (test x) x n test (find test list) refl (found_passes list test n) e

module _ (scope : Scope) (s : Schemas) (agrees : Agrees scope s) where
  -- the columns of a known target
  target_known : (name : List ℕ) (at : ℕ) → unknown_faults (insert_target scope name) at ≡ [] → s.targets (target_or_first (insert_target scope name)) ≡ wanted_columns (columns_in (insert_target scope name))
  target_known name at e =
      let test = λ (n : Named). same_name n.name name && is_some (target_of n.source) in
      let k = known_source (insert_target scope name) at e in
      let there = found_there scope.targets test k.0 k.1 in
      let t = some_is (target_of k.0.source) (and_parts (same_name k.0.name name) (is_some (target_of k.0.source)) (found_passes scope.targets test k.0 k.1)).1 in
      ap (λ (o : Option Named). s.targets (target_or_first o)) k.1
      ∙ ap (λ (o : Option Target). s.targets (unwrap_or o (target.Table 0))) t.1
      ∙ agrees.targets k.0 t.0 there t.1
      ∙ ap (λ (o : Option Named). wanted_columns (columns_in o)) (sym k.1)

  table_is_target : (source : SourceId) (t : ℕ) → table_of source ≡ Some t → target_of source ≡ Some (target.Table t)
  table_is_target (source.Table n) t e = let same : n ≡ t = cc in ap (λ (x : ℕ). Some (target.Table x)) same
  table_is_target (source.Window n) t e = absurd cc
  table_is_target (source.Batch n) t e = absurd cc
  table_is_target source.Inserted t e = absurd cc

  -- the columns and the key of a known table
  table_known : (name : List ℕ) (at : ℕ) → unknown_faults (table_named scope name) at ≡ [] → (s.targets (target.Table (table_or_first (table_named scope name))) ≡ columns_of (table_named scope name)) × (s.keys (table_or_first (table_named scope name)) ≡ key_of (table_named scope name))
  table_known name at e =
      let test = λ (n : Named). same_name n.name name && is_some (table_of n.source) in
      let k = known_source (table_named scope name) at e in
      let there = found_there scope.targets test k.0 k.1 in
      let t = some_is (table_of k.0.source) (and_parts (same_name k.0.name name) (is_some (table_of k.0.source)) (found_passes scope.targets test k.0 k.1)).1 in
      let number : table_or_first (table_named scope name) ≡ t.0 = ap table_or_first k.1 ∙ ap (λ (o : Option ℕ). unwrap_or o 0) t.1 in (
        ap (λ (x : ℕ). s.targets (target.Table x)) number ∙ agrees.targets k.0 (target.Table t.0) there (table_is_target k.0.source t.0 t.1) ∙ sym (ap columns_of k.1),
        ap s.keys number ∙ agrees.keys k.0 t.0 there t.1 ∙ sym (ap key_of k.1),
      )

  pub bare_covered : Covers [] (bare scope)
  bare_covered = record { source = λ n which. elim which [ inl zero_is ↦ subst (λ (m : ℕ). get_or [] m [] ≡ source_columns (bare scope) m) (sym zero_is) refl | inr one_is ↦ subst (λ (m : ℕ). get_or [] m [] ≡ source_columns (bare scope) m) (sym one_is) refl ] }

  insert_sound : (name : List ℕ) (at : ℕ) (values : List ExprTree) (given : Option Named) → insert_target scope name ≡ given → insert_faults scope given at values ≡ [] → types_fit (map (expr_type [] s.params) (map (typed_value (bare scope)) values)) (wanted_columns (columns_in given)) ≡ true
  insert_sound name at values None is e = absurd cc
  insert_sound name at values (Some n) is e =
      let count = fault_unless (length values == length n.schema) (WrongCount at) in
      let rest = values_faults (bare scope) n.schema values in
      let same : length values ≡ length n.schema = eqb-true (length values) (length n.schema) (no_fault (length values == length n.schema) (WrongCount at) (empty_left count rest e)) in
      subst (λ (p : List Column). types_fit (map (expr_type [] p) (map (typed_value (bare scope)) values)) n.schema ≡ true) (sym agrees.params) (values_fit [] (bare scope) None bare_covered n.schema values same (empty_right count rest e))

  insert_query_sound : (at : ℕ) (q : QueryTree) (given : Option Named) → unknown_faults given at ≡ [] → query_faults scope (columns_in given) at q ≡ [] → types_fit (query_types s (typed_query scope q)) (wanted_columns (columns_in given)) ≡ true
  insert_query_sound at q None u e = absurd cc
  insert_query_sound at q (Some n) u e = query_fits scope s agrees n.schema at q e

  -- ---- SET

  module _ (table : Option Named) where
    one_set : (key earlier : List ℕ) (set : SetTree) (c : Option ℕ) → set_column (of_table scope table) set ≡ c
        → column_faults key earlier set.column.at c ≡ []
        → expr_faults (of_table scope table) None (set_needs (columns_of table) c) set.value ≡ []
        → (has_type (schema_type (columns_of table) (unwrap_or c 0)) (expr_type (columns_of table ∷ []) scope.params (typed_value (of_table scope table) set.value)) ≡ true)
        × (not (is_among key (unwrap_or c 0)) ≡ true) × (not (is_among earlier (unwrap_or c 0)) ≡ true)
    one_set key earlier set None is e f = absurd cc
    one_set key earlier set (Some c) is e f =
        let k = named_kind (columns_of table) set.column.name c is in
        let first = fault_unless (not (has key c)) (KeyIsSet set.column.at) in
        let second = fault_unless (not (has earlier c)) (WrongCount set.column.at) in
        let covers = one_covered (columns_of table) (of_table scope table) refl refl in
        let faults = subst (λ (n : Option ValueKind). expr_faults (of_table scope table) None (kind_needs n) set.value ≡ []) k.known f in
        let right = placed_sound (columns_of table ∷ []) (of_table scope table) None covers (Only k.kind) set.value faults in (
          subst (λ (o : Option ExprType). has_type o (expr_type (columns_of table ∷ []) scope.params (typed_value (of_table scope table) set.value)) ≡ true) (sym k.typed) right,
          no_fault (not (has key c)) (KeyIsSet set.column.at) (empty_left first second e),
          no_fault (not (has earlier c)) (WrongCount set.column.at) (empty_right first second e),
        )

    grown : (earlier : List ℕ) (key : List ℕ) (at : ℕ) (c : Option ℕ) → column_faults key earlier at c ≡ [] → with_column earlier c ≡ earlier ++ unwrap_or c 0 ∷ []
    grown earlier key at None e = absurd cc
    grown earlier key at (Some c) e = refl

    sets_sound : (key earlier : List ℕ) (sets : List SetTree) → sets_faults (of_table scope table) key earlier sets ≡ [] → sets_typed s (columns_of table) key earlier (map (typed_set (of_table scope table)) sets) ≡ true
    sets_sound key earlier [] e = refl
    sets_sound key earlier (set ∷ sets) e =
        let reach = of_table scope table in
        let c = set_column reach set in
        let own = set_faults reach key earlier set in
        let rest = sets_faults reach key (with_column earlier c) sets in
        let column = column_faults key earlier set.column.at c in
        let value = expr_faults reach None (set_needs (columns_of table) c) set.value in
        let mine = empty_left own rest e in
        let one = one_set key earlier set c refl (empty_left column value mine) (empty_right column value mine) in
        let next = subst (λ (l : List ℕ). sets_typed s (columns_of table) key l (map (typed_set reach) sets) ≡ true) (grown earlier key set.column.at c (empty_left column value mine)) (sets_sound key (with_column earlier c) sets (empty_right own rest e)) in
        let typed : has_type (schema_type (columns_of table) (unwrap_or c 0)) (expr_type (columns_of table ∷ []) s.params (typed_value reach set.value)) ≡ true =
        subst (λ (p : List Column). has_type (schema_type (columns_of table) (unwrap_or c 0)) (expr_type (columns_of table ∷ []) p (typed_value reach set.value)) ≡ true) (sym agrees.params) one.0 in
        rw (typed, one.1, one.2, next) refl

    where_sound : (test : Option ExprTree) → test_faults (of_table scope table) test ≡ [] → test_typed (columns_of table ∷ []) s.params (option_map (typed_value (of_table scope table)) test) ≡ true
    where_sound test e =
        let covers = one_covered (columns_of table) (of_table scope table) refl refl in
        subst (λ (p : List Column). test_typed (columns_of table ∷ []) p (option_map (typed_value (of_table scope table)) test) ≡ true) (sym agrees.params) (test_sound (columns_of table ∷ []) (of_table scope table) covers test e)

  -- ---- statements

  pub statement_sound : (st : StatementTree) → statement_faults scope st ≡ [] → statement_typed s (typed_statement scope st) ≡ true
  statement_sound (tree.InsertValues at t values) e =
      let given = insert_target scope t.name in
      let known = target_known t.name t.at (empty_left (unknown_faults given t.at) (count_faults (columns_in given) (length values) t.at ++ values_faults (bare scope) (wanted_columns (columns_in given)) values) e) in
      subst (λ (l : List Column). types_fit (map (expr_type [] s.params) (map (typed_value (bare scope)) values)) l ≡ true) (sym known) (insert_sound t.name t.at values given refl e)
  statement_sound (tree.InsertQuery at t q) e =
      let given = insert_target scope t.name in
      let u = empty_left (unknown_faults given t.at) (query_faults scope (columns_in given) t.at q) e in
      let f = empty_right (unknown_faults given t.at) (query_faults scope (columns_in given) t.at q) e in
      let known = target_known t.name t.at u in
      and_from (query_typed s (typed_query scope q)) (types_fit (query_types s (typed_query scope q)) (s.targets (target_or_first given)))
      (query_sound scope s agrees (columns_in given) t.at q f)
      (subst (λ (l : List Column). types_fit (query_types s (typed_query scope q)) l ≡ true) (sym known) (insert_query_sound t.at q given u f))
  statement_sound (tree.Update at t sets test) e =
      let table = table_named scope t.name in
      let a = unknown_faults table t.at in
      let b = sets_faults (of_table scope table) (key_of table) [] sets in
      let c = test_faults (of_table scope table) test in
      let known = table_known t.name t.at (empty_left a (b ++ c) e) in
      let rest = empty_right a (b ++ c) e in
      let sets_typed_on = λ (l : List Column) (k : List ℕ). sets_typed s l k [] (map (typed_set (of_table scope table)) sets) in
      let test_typed_on = λ (l : List Column). test_typed (l ∷ []) s.params (option_map (typed_value (of_table scope table)) test) in
      let columns = s.targets (target.Table (table_or_first table)) in
      let key = s.keys (table_or_first table) in
      and_from (sets_typed_on columns key) (test_typed_on columns)
      (subst (λ (l : List Column). sets_typed_on l key ≡ true) (sym known.0) (subst (λ (k : List ℕ). sets_typed_on (columns_of table) k ≡ true) (sym known.1) (sets_sound table (key_of table) [] sets (empty_left b c rest))))
      (subst (λ (l : List Column). test_typed_on l ≡ true) (sym known.0) (where_sound table test (empty_right b c rest)))
  statement_sound (tree.Delete at t test) e =
      let table = table_named scope t.name in
      let a = unknown_faults table t.at in
      let c = test_faults (of_table scope table) test in
      let known = table_known t.name t.at (empty_left a c e) in
      subst (λ (l : List Column). test_typed (l ∷ []) s.params (option_map (typed_value (of_table scope table)) test) ≡ true) (sym known.0) (where_sound table test (empty_right a c e))
