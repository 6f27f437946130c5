-- Steps that are read are well typed and in scope.
use Rattle.std.proofs.Common.{◌≡◌, ◌+◌, ℕ, true, false, List, [], ◌∷◌, map, length, Option, Some, None, refl, sym, ap, subst, ◌∙◌}
use Rattle.std.specs.Prelude.{Result, Ok}
use Rattle.std.specs.List.{list_all, flat_map}
use Rattle.std.proofs.lemmas.Bool.{and_from}
use Rattle.ss_value.specs.declared.schema.Column.{Column}
use Rattle.ss_sql_trees.specs.declared.typed.Query.{Query}
use Rattle.ss_sql_trees.specs.WellTyped.{expr_type, query_types, types_fit, query_typed}
use Rattle.ss_model.specs.declared.catalog.Catalog.{Catalog}
use Rattle.ss_model.specs.declared.catalog.Inner.{Inner}
use Rattle.ss_model.specs.declared.catalog.Step.{Step}
use Rattle.ss_model.specs.declared.catalog.Step.TheVariants.{ForEach, Emit, Return}
use Rattle.ss_model.specs.Typing.{schemas_of, inner_typed, step_typed}
use Rattle.ss_model.specs.Scopes.{inner_in_scope, step_in_scope}
use Rattle.ss_catalog_outline.specs.declared.types.GivenOutline.{GivenOutline}
use Rattle.ss_catalog_outline.specs.declared.types.InnerOutline.{InnerOutline}
use Rattle.ss_catalog_outline.specs.declared.types.InnerOutline.TheVariants.{Sql as SqlInside, AbortIf as AbortIfInside}
use Rattle.ss_catalog_outline.specs.declared.types.StepOutline.{StepOutline}
use Rattle.ss_catalog_outline.specs.declared.types.StepOutline.TheVariants as outline
use Rattle.ss_catalog_outline.specs.declared.types.ProcedureOutline.{ProcedureOutline}
use Rattle.ss_catalog_outline.specs.declared.types.Outline.{Outline}
use Rattle.ss_names.specs.Names.{itself}
use Rattle.ss_catalog_outline.specs.Unknown.{Scope as Names, names_in, first_unknown, given_uses, step_uses, own_scope}
use Rattle.ss_catalog_outline.specs.Limits.{over_limit, step_count}
use Rattle.ss_catalog_resolve.specs.declared.definitions.Sections.{Sections}
use Rattle.ss_catalog_resolve.specs.Numbers.{number_in}
use Rattle.ss_catalog_resolve.specs.Numbered.{sections_of, table_names, stream_names, inputs_of}
use Rattle.ss_catalog_resolve.specs.declared.fault.SqlFault.{SqlFault}
use Rattle.ss_catalog_resolve.specs.declared.fault.BodyFault.{BodyFault}
use Rattle.ss_catalog_resolve.specs.Scopes.{procedure_scope}
use Rattle.ss_catalog_resolve.specs.Steps.{given_expr, given_fault, whole_table, unless_fault, step_scope, table_number, table_columns, stream_number, columns_of_stream, insert_of, InnerReads, StepReads}
use Rattle.ss_catalog_resolve.specs.InOrder.{AllRead}
use Rattle.ss_catalog_laws.proofs.Uses.{known_both, known_one}
use Rattle.ss_catalog_laws.proofs.Entries.{sections_in, Covers, procedure_covered}
use Rattle.ss_catalog_laws.proofs.Said.{statement_said, condition_said, query_said}
use Rattle.ss_catalog_laws.proofs.Given.{values_fit, whole_typed}
use Rattle.ss_catalog_laws.proofs.TestsInOrder.{each_read, each_known}
use Rattle.ss_catalog_laws.proofs.Numbered.{table_there, same_columns, stream_there, input_there}

-- what fits has no fault
fitting : {B : Type 0} (n : ℕ) (fault : Option SqlFault) (b c : B) → ◌≡◌ {A = Result B BodyFault} (Ok c) (unless_fault n fault b) → (fault ≡ None) × (b ≡ c)
fitting n None b c e = (refl, cc)
fitting n (Some fault) b c e = absurd cc

module _ (o : Outline) (catalog : Catalog) (is : sections_of o ≡ sections_in catalog) (limits : over_limit o ≡ None) (p : ProcedureOutline) where
  abbrev inputs : List ℕ
  inputs = inputs_of o p

  -- what fields may name
  abbrev pub names : Names
  names = own_scope (table_names o) (stream_names o) p

  covered : (params : List Column) (out : Option (List Column)) → Covers catalog inputs [] false (step_scope o p params out)
  covered params out = subst (λ (s : Sections). Covers catalog inputs [] false (procedure_scope s inputs params out)) (sym is) (procedure_covered catalog inputs [] false params out)

  -- ---- steps inside a `for_each`

  abbrev InnerSound : List Column → Inner → Type 0
  InnerSound params i = (inner_typed catalog inputs [] params i ≡ true) × (inner_in_scope catalog (length inputs) false i ≡ true)

  inner_sound : (params : List Column) (n : ℕ) (i : InnerOutline) (made : Inner) → InnerReads o p params n i (Ok made) → InnerSound params made
  inner_sound params n (SqlInside text) made reads =
      subst (InnerSound params) (sym reads.1) (statement_said catalog inputs [] false (step_scope o p params None) (covered params None) text reads.0 reads.2)
  inner_sound params n (AbortIfInside test code) made reads =
      subst (InnerSound params) (sym reads.1) (condition_said catalog inputs [] false (step_scope o p params None) (covered params None) test reads.0 reads.2)

  -- ---- steps

  abbrev pub StepSound : Step → Type 0
  StepSound s = (step_typed catalog inputs [] p.args s ≡ true) × (step_in_scope catalog (length inputs) false s ≡ true)

  insert_sound : (table : List ℕ) (values : List GivenOutline) → first_unknown (step_uses names (outline.Insert table values)) ≡ None → given_fault p.args (table_columns o table) values ≡ None → StepSound (insert_of o p table values)
  insert_sound table values known fits =
      let there = table_there o catalog is limits table (known_one (table_names o) table ((known_both (names_in itself (table_names o) (table ∷ [])) (flat_map (given_uses names) values) known).0)) in (
        ap (types_fit (map (expr_type [] p.args) (map (given_expr p.args) values))) there.columns ∙ values_fit p.args (table_columns o table) values fits,
        there.within,
      )

  return_all_sound : (table : List ℕ) → first_unknown (step_uses names (outline.ReturnAll table)) ≡ None → StepSound (Return (whole_table (table_number o table) (table_columns o table)))
  return_all_sound table known =
      let there = table_there o catalog is limits table (known_one (table_names o) table known) in (
        whole_typed (schemas_of catalog inputs [] p.args) (table_number o table) (table_columns o table) there.columns there.few,
        and_from _ _ there.within refl,
      )

  for_each_sound : (stream : List ℕ) (n : ℕ) (body : List InnerOutline) (made : List Inner) → first_unknown (step_uses names (outline.ForEach stream body)) ≡ None
      → AllRead (λ i. 1) (InnerReads o p (columns_of_stream o stream)) n body made → StepSound (ForEach (number_in p.inputs stream) made)
  for_each_sound stream n body made known reads =
      let there = input_there o catalog is p stream (known_one p.inputs stream known) in
      let columns = columns_of_stream o stream in
      let i = number_in p.inputs stream in
      let typed : list_all (inner_typed catalog inputs [] columns) made ≡ true = each_read (λ i. 1) (InnerReads o p columns) (inner_typed catalog inputs [] columns) (λ m x y r. (inner_sound columns m x y r).0) n body made reads in
      let scoped : list_all (inner_in_scope catalog (length inputs) false) made ≡ true = each_read (λ i. 1) (InnerReads o p columns) (inner_in_scope catalog (length inputs) false) (λ m x y r. (inner_sound columns m x y r).1) n body made reads in (
        and_from _ _ there.within (subst (λ (cs : List Column). list_all (inner_typed catalog inputs [] cs) made ≡ true) there.columns typed),
        and_from _ _ there.within scoped,
      )

  emit_sound : (stream text : List ℕ) (q : Query) → first_unknown (step_uses names (outline.Emit stream text)) ≡ None
      → (query_typed (schemas_of catalog inputs [] p.args) q ≡ true) → (step_in_scope catalog (length inputs) false (Return q) ≡ true) → (types_fit (query_types (schemas_of catalog inputs [] p.args) q) (columns_of_stream o stream) ≡ true)
      → StepSound (Emit (stream_number o stream) q)
  emit_sound stream text q known typed scoped fits = (
    and_from _ _ typed (subst (λ (cs : List Column). types_fit (query_types (schemas_of catalog inputs [] p.args) q) cs ≡ true) (same_columns o catalog is stream) fits),
    and_from _ _ (stream_there o catalog is stream (known_one (stream_names o) stream known)) scoped,
  )

  pub step_sound : (n : ℕ) (s : StepOutline) (made : Step) → first_unknown (step_uses names s) ≡ None → StepReads o p n s (Ok made) → StepSound made
  step_sound n (outline.Insert table values) made known reads =
      let fits = fitting n (given_fault p.args (table_columns o table) values) (insert_of o p table values) made reads in
      subst StepSound fits.1 (insert_sound table values known fits.0)
  step_sound n (outline.ReturnAll table) made known reads =
      let same : Return (whole_table (table_number o table) (table_columns o table)) ≡ made = cc in
      subst StepSound same (return_all_sound table known)
  step_sound n (outline.Sql text) made known reads =
      subst StepSound (sym reads.1) (statement_said catalog inputs [] false (step_scope o p p.args None) (covered p.args None) text reads.0 reads.2)
  step_sound n (outline.AbortIf test code) made known reads =
      subst StepSound (sym reads.1) (condition_said catalog inputs [] false (step_scope o p p.args None) (covered p.args None) test reads.0 reads.2)
  step_sound n (outline.ForEach stream body) made known reads = subst StepSound (sym reads.1) (for_each_sound stream (n + 1) body reads.0 known reads.2)
  step_sound n (outline.Emit stream query) made known reads =
      let out = Some (columns_of_stream o stream) in
      let said = query_said catalog inputs [] false (step_scope o p p.args out) (covered p.args out) query reads.0 reads.2 in
      subst StepSound (sym reads.1) (emit_sound stream query reads.0 known said.0 said.1 said.2)
  step_sound n (outline.Return query) made known reads =
      let said = query_said catalog inputs [] false (step_scope o p p.args None) (covered p.args None) query reads.0 reads.2 in
      subst StepSound (sym reads.1) (said.0, said.1)

  -- a whole body
  pub body_sound : (n : ℕ) (body : List StepOutline) (made : List Step) → first_unknown (flat_map (step_uses names) body) ≡ None → AllRead step_count (StepReads o p) n body made
      → (list_all (step_typed catalog inputs [] p.args) made ≡ true) × (list_all (step_in_scope catalog (length inputs) false) made ≡ true)
  body_sound n body made known reads = (
    each_known step_count (StepReads o p) (step_typed catalog inputs [] p.args) (step_uses names) (λ m x y k r. (step_sound m x y k r).0) n body made known reads,
    each_known step_count (StepReads o p) (step_in_scope catalog (length inputs) false) (step_uses names) (λ m x y k r. (step_sound m x y k r).1) n body made known reads,
  )
