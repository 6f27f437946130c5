-- A tree that breaks no rule names sources and targets that it may.
use Rattle.std.proofs.Common.{◌≡◌, ◌&&◌, ℕ, Bool, true, false, List, [], length, Option, Some, None, refl, sym, ap, subst, ◌∙◌}
use Rattle.std.specs.Prelude.{not, is_some, unwrap_or, option_map, nat_lt}
use Rattle.std.specs.Cmp.Lexicographic.{bytes_decides}
use Rattle.std.proofs.lemmas.Bool.{and_parts, and_from, eqb-true}
use Rattle.std.proofs.lemmas.Option.{same_Some}
use Rattle.ss_lemmas.proofs.Results.{some_is}
use Rattle.ss_lemmas.proofs.Counts.{empty_left, empty_right}
use Rattle.ss_value.specs.declared.schema.Column.{Column}
use Rattle.ss_sql_lex.specs.declared.tree.NameTree.{NameTree}
use Rattle.ss_sql_lex.specs.declared.tree.JoinTree.{JoinTree}
use Rattle.ss_sql_lex.specs.declared.tree.QueryTree.{QueryTree}
use Rattle.ss_sql_lex.specs.declared.tree.ConditionTree.{ConditionTree}
use Rattle.ss_sql_lex.specs.declared.tree.StatementTree.{StatementTree}
use Rattle.ss_sql_lex.specs.declared.tree.StatementTree.TheVariants as tree
use Rattle.ss_sql_trees.specs.declared.typed.SourceId.{SourceId}
use Rattle.ss_sql_trees.specs.declared.typed.SourceId.TheVariants.{Table as FromTable, Window as FromWindow, Batch as FromBatch, Inserted}
use Rattle.ss_sql_trees.specs.declared.typed.Target.{Target}
use Rattle.ss_sql_trees.specs.declared.typed.Target.TheVariants.{Table as IntoTable, Window as IntoWindow}
use Rattle.ss_sql_type.specs.declared.scope.Named.{Named}
use Rattle.ss_sql_type.specs.declared.scope.Scope.{Scope}
use Rattle.ss_sql_type.specs.declared.scope.TypeError.TheVariants.{UnknownName}
use Rattle.ss_sql_type.specs.Refusals.{fault_unless}
use Rattle.ss_sql_type.specs.Names.{Reach, same_name, source_named}
use Rattle.ss_sql_type.specs.Queries.{joined_source, query_reach, source_id, typed_join, unknown_faults, join_faults, query_faults, typed_query}
use Rattle.ss_sql_type.specs.Statements.{target_of, table_of, insert_target, table_named, target_or_first, table_or_first, columns_in, condition_faults, statement_faults, typed_statement}
use Rattle.ss_sql_type.proofs.CallerLemmas.{no_fault, found_there, known_source}
use Rattle.ss_model.specs.declared.catalog.Catalog.{Catalog}
use Rattle.ss_model.specs.Scopes.{is_same_source, source_in_scope, join_in_scope, query_in_scope, target_in_scope, statement_in_scope}
use Rattle.ss_catalog_laws.proofs.Positions.{found_passes}
use Rattle.ss_catalog_laws.proofs.Entries.{source_name, Entry, Covers}

-- ---- sources that are the same

same_source : (s t : SourceId) → is_same_source s t ≡ true → s ≡ t
same_source (FromTable m) (FromTable n) e = ap FromTable (eqb-true m n e)
same_source (FromWindow m) (FromWindow n) e = ap FromWindow (eqb-true m n e)
same_source (FromBatch m) (FromBatch n) e = ap FromBatch (eqb-true m n e)
same_source Inserted Inserted e = refl
same_source _ _ e = absurd cc

-- what does not follow is not so
not_since : (a b : Bool) → (a ≡ true → b ≡ true) → not b ≡ true → not a ≡ true
not_since false b h e = refl
not_since true true h e = e
not_since true false h e = let wrong = h refl in absurd cc

module _ (catalog : Catalog) (inputs : List ℕ) (inserted : List Column) (has : Bool) where
  -- what a search found: something in scope of this name
  record IsFound (name : List ℕ) (o : Option Named) : Type 0 where
    entry : Named
    is : o ≡ Some entry
    stands : Entry catalog inputs inserted has entry
    called : entry.name ≡ name

  -- two that are found under names that differ are not the same
  other_source : (a b : List ℕ) (m n : Option Named) → IsFound a m → IsFound b n → not (same_name a b) ≡ true → not (is_same_source (source_id m) (source_id n)) ≡ true
  other_source a b m n f g differ =
      let same_names = λ (same : is_same_source (source_id m) (source_id n) ≡ true).
      let sources : f.entry.source ≡ g.entry.source = ap source_id (sym f.is) ∙ same_source (source_id m) (source_id n) same ∙ ap source_id g.is in
      let names : a ≡ b = sym f.called ∙ sym f.stands.name ∙ ap (source_name catalog inputs inserted has) sources ∙ g.stands.name ∙ g.called in
      (bytes_decides a b).1 names in
      not_since (is_same_source (source_id m) (source_id n)) (same_name a b) same_names differ

  source_found : (name : List ℕ) (o : Option Named) → IsFound name o → source_in_scope catalog (length inputs) has (source_id o) ≡ true
  source_found name o f = ap (λ (x : Option Named). source_in_scope catalog (length inputs) has (source_id x)) f.is ∙ f.stands.within

  -- ---- targets

  target_within : (s : SourceId) (t : Target) → target_of s ≡ Some t → source_in_scope catalog (length inputs) has s ≡ true → target_in_scope catalog (length inputs) has t ≡ true
  target_within (FromTable k) t e h = subst (λ x. target_in_scope catalog (length inputs) has x ≡ true) (same_Some (IntoTable k) t e) h
  target_within (FromWindow k) t e h = subst (λ x. target_in_scope catalog (length inputs) has x ≡ true) (same_Some (IntoWindow k) t e) h
  target_within (FromBatch k) t e h = absurd cc
  target_within Inserted t e h = absurd cc

  table_within : (s : SourceId) (t : ℕ) → table_of s ≡ Some t → source_in_scope catalog (length inputs) has s ≡ true → nat_lt t (length catalog.tables) ≡ true
  table_within (FromTable k) t e h = subst (λ x. nat_lt x (length catalog.tables) ≡ true) (same_Some k t e) h
  table_within (FromWindow k) t e h = absurd cc
  table_within (FromBatch k) t e h = absurd cc
  table_within Inserted t e h = absurd cc

  module _ (scope : Scope) (covers : Covers catalog inputs inserted has scope) where
    source_is : (name : List ℕ) (at : ℕ) → unknown_faults (source_named scope.sources name) at ≡ [] → IsFound name (source_named scope.sources name)
    source_is name at e =
        let test = λ (n : Named). same_name n.name name in
        let k = known_source (source_named scope.sources name) at e in
        record {
          entry = k.0;
          is = k.1;
          stands = covers.sources k.0 (found_there scope.sources test k.0 k.1);
          called = (bytes_decides k.0.name name).0 (found_passes test scope.sources k.0 k.1);
        }

    -- ---- queries

    abbrev reach_of : NameTree → Option JoinTree → Reach
    reach_of from j = record { first = source_named scope.sources from.name; second = joined_source scope.sources j; params = scope.params }

    join_in : (from : NameTree) (j : Option JoinTree) → IsFound from.name (source_named scope.sources from.name) → join_faults (reach_of from j) from j ≡ []
        → join_in_scope catalog (length inputs) has (source_id (source_named scope.sources from.name)) (option_map (typed_join (reach_of from j)) j) ≡ true
    join_in from None first e = refl
    join_in from (Some j) first e =
        let unknown = unknown_faults (source_named scope.sources j.name.name) j.name.at in
        let other = fault_unless (not (same_name from.name j.name.name)) (UnknownName j.name.at) in
        let second = source_is j.name.name j.name.at (empty_left unknown _ e) in
        let differ : not (same_name from.name j.name.name) ≡ true = no_fault (not (same_name from.name j.name.name)) (UnknownName j.name.at) (empty_left other _ (empty_right unknown _ e)) in
        and_from _ _
        (source_found j.name.name (source_named scope.sources j.name.name) second)
        (other_source from.name j.name.name (source_named scope.sources from.name) (source_named scope.sources j.name.name) first second differ)

    pub query_in : (columns : Option (List Column)) (at : ℕ) (q : QueryTree) → query_faults scope columns at q ≡ [] → query_in_scope catalog (length inputs) has (typed_query scope q) ≡ true
    query_in columns at q e =
        let unknown = unknown_faults (source_named scope.sources q.from.name) q.from.at in
        let joins = join_faults (query_reach scope q) q.from q.joined in
        let first = source_is q.from.name q.from.at (empty_left unknown _ e) in
        and_from _ _
        (source_found q.from.name (source_named scope.sources q.from.name) first)
        (join_in q.from q.joined first (empty_left joins _ (empty_right unknown _ e)))

    pub condition_in : (c : ConditionTree) → condition_faults scope c ≡ [] → query_in_scope catalog (length inputs) has (typed_query scope c.query) ≡ true
    condition_in c e = query_in None 0 c.query (empty_left (query_faults scope None 0 c.query) _ e)

    -- ---- statements

    target_in : (name : List ℕ) (at : ℕ) → unknown_faults (insert_target scope name) at ≡ [] → target_in_scope catalog (length inputs) has (target_or_first (insert_target scope name)) ≡ true
    target_in name at e =
        let test = λ (n : Named). same_name n.name name && is_some (target_of n.source) in
        let k = known_source (insert_target scope name) at e in
        let passes = found_passes test scope.targets k.0 k.1 in
        let t = some_is (target_of k.0.source) (and_parts (same_name k.0.name name) (is_some (target_of k.0.source)) passes).1 in
        let stands = covers.targets k.0 (found_there scope.targets test k.0 k.1) in
        let which : target_or_first (insert_target scope name) ≡ t.0 = ap target_or_first k.1 ∙ ap (λ (o : Option Target). unwrap_or o (IntoTable 0)) t.1 in
        ap (target_in_scope catalog (length inputs) has) which ∙ target_within k.0.source t.0 t.1 stands.within

    table_in : (name : List ℕ) (at : ℕ) → unknown_faults (table_named scope name) at ≡ [] → nat_lt (table_or_first (table_named scope name)) (length catalog.tables) ≡ true
    table_in name at e =
        let test = λ (n : Named). same_name n.name name && is_some (table_of n.source) in
        let k = known_source (table_named scope name) at e in
        let passes = found_passes test scope.targets k.0 k.1 in
        let t = some_is (table_of k.0.source) (and_parts (same_name k.0.name name) (is_some (table_of k.0.source)) passes).1 in
        let stands = covers.targets k.0 (found_there scope.targets test k.0 k.1) in
        let which : table_or_first (table_named scope name) ≡ t.0 = ap table_or_first k.1 ∙ ap (λ (o : Option ℕ). unwrap_or o 0) t.1 in
        ap (λ n. nat_lt n (length catalog.tables)) which ∙ table_within k.0.source t.0 t.1 stands.within

    pub statement_in : (st : StatementTree) → statement_faults scope st ≡ [] → statement_in_scope catalog (length inputs) has (typed_statement scope st) ≡ true
    statement_in (tree.InsertValues at t values) e = target_in t.name t.at (empty_left (unknown_faults (insert_target scope t.name) t.at) _ e)
    statement_in (tree.InsertQuery at t q) e =
        let given = insert_target scope t.name in
        let unknown = unknown_faults given t.at in
        let faults = query_faults scope (columns_in given) t.at q in
        and_from _ _ (target_in t.name t.at (empty_left unknown faults e)) (query_in (columns_in given) t.at q (empty_right unknown faults e))
    statement_in (tree.Update at t sets test) e = table_in t.name t.at (empty_left (unknown_faults (table_named scope t.name) t.at) _ e)
    statement_in (tree.Delete at t test) e = table_in t.name t.at (empty_left (unknown_faults (table_named scope t.name) t.at) _ e)
