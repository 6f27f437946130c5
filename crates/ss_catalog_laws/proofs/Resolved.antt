-- All SQL of a resolved outline is well typed and in scope.
use Rattle.std.proofs.Common.{◌≡◌, ℕ, Bool, true, List, [], ◌++◌, None, sym, subst}
use Rattle.std.specs.Prelude.{Ok}
use Rattle.std.specs.List.{flat_map}
use Rattle.std.proofs.lemmas.Bool.{and_from}
use Rattle.ss_sql_trees.specs.declared.typed.Statement.{Statement}
use Rattle.ss_sql_trees.specs.WellTyped.{statement_typed}
use Rattle.ss_model.specs.declared.catalog.Catalog.{Catalog}
use Rattle.ss_model.specs.declared.catalog.Procedure.{Procedure}
use Rattle.ss_model.specs.declared.catalog.TriggerDef.{TriggerDef}
use Rattle.ss_model.specs.declared.catalog.On.{On}
use Rattle.ss_model.specs.Typing.{schemas_of, procedure_typed, trigger_schema, trigger_typed}
use Rattle.ss_model.specs.Scopes.{statement_in_scope, procedure_in_scope, is_on_a_stream, trigger_in_scope}
use Rattle.ss_catalog_outline.specs.declared.types.TriggerOutline.{TriggerOutline}
use Rattle.ss_catalog_outline.specs.declared.types.ProcedureOutline.{ProcedureOutline}
use Rattle.ss_catalog_outline.specs.declared.types.Outline.{Outline}
use Rattle.ss_names.specs.Names.{itself}
use Rattle.ss_catalog_outline.specs.Unknown.{names_in, first_unknown, touch_uses, step_uses, own_procedure_uses, name_unknown}
use Rattle.ss_catalog_outline.specs.Limits.{over_limit}
use Rattle.ss_catalog_resolve.specs.declared.definitions.Sections.{Sections}
use Rattle.ss_catalog_resolve.specs.Numbered.{sections_of, on_of, table_names, stream_names}
use Rattle.ss_catalog_resolve.specs.Scopes.{trigger_scope}
use Rattle.ss_catalog_resolve.specs.Bodies.{ProcedureReads, StatementReads, TriggerReads, Resolves}
use Rattle.ss_catalog_laws.specs.Sql.{HasTypedSql}
use Rattle.ss_catalog_laws.proofs.Uses.{known_both, procedures_known}
use Rattle.ss_catalog_laws.proofs.Entries.{sections_in, Covers, trigger_covered}
use Rattle.ss_catalog_laws.proofs.Said.{statement_said}
use Rattle.ss_catalog_laws.proofs.TestsInOrder.{each_read, each_known}
use Rattle.ss_catalog_laws.proofs.Steps.{names, body_sound}

module _ (o : Outline) (catalog : Catalog) (is : sections_of o ≡ sections_in catalog) where
  -- ---- procedures

  abbrev ProcedureSound : Procedure → Type 0
  ProcedureSound p = (procedure_typed catalog p ≡ true) × (procedure_in_scope catalog p ≡ true)

  procedure_sound : over_limit o ≡ None → (n : ℕ) (p : ProcedureOutline) (made : Procedure) → first_unknown (own_procedure_uses (table_names o) (stream_names o) p) ≡ None → ProcedureReads o n p (Ok made) → ProcedureSound made
  procedure_sound limits n p made known reads =
      let scope = names o catalog is limits p in
      let steps = (known_both (names_in itself scope.streams p.inputs ++ touch_uses scope p.touch) (flat_map (step_uses scope) p.body) known).1 in
      subst ProcedureSound (sym reads.1) (body_sound o catalog is limits p 0 p.body reads.0 steps reads.2)

  -- ---- triggers

  covered : (on : On) → Covers catalog [] (trigger_schema catalog on) (is_on_a_stream on) (trigger_scope (sections_of o) on)
  covered on = subst (λ (s : Sections). Covers catalog [] (trigger_schema catalog on) (is_on_a_stream on) (trigger_scope s on)) (sym is) (trigger_covered catalog on)

  abbrev StatementSound : On → Statement → Type 0
  StatementSound on s = (statement_typed (schemas_of catalog [] (trigger_schema catalog on) []) s ≡ true) × (statement_in_scope catalog 0 (is_on_a_stream on) s ≡ true)

  statement_sound : (t : TriggerOutline) (n : ℕ) (text : List ℕ) (made : Statement) → StatementReads o t n text (Ok made) → StatementSound (on_of o t.on) made
  statement_sound t n text made reads =
      let on = on_of o t.on in
      subst (StatementSound on) (sym reads.1) (statement_said catalog [] (trigger_schema catalog on) (is_on_a_stream on) (trigger_scope (sections_of o) on) (covered on) text reads.0 reads.2)

  abbrev TriggerSound : TriggerDef → Type 0
  TriggerSound t = (trigger_typed catalog t ≡ true) × (trigger_in_scope catalog t ≡ true)

  trigger_sound : (n : ℕ) (t : TriggerOutline) (made : TriggerDef) → TriggerReads o n t (Ok made) → TriggerSound made
  trigger_sound n t made reads =
      let on = on_of o t.on in
      let typed = statement_typed (schemas_of catalog [] (trigger_schema catalog on) []) in
      let scoped = statement_in_scope catalog 0 (is_on_a_stream on) in
      subst TriggerSound (sym reads.1) (
        each_read (λ s. 1) (StatementReads o t) typed (λ m x y r. (statement_sound t m x y r).0) 0 t.statements reads.0 reads.2,
        each_read (λ s. 1) (StatementReads o t) scoped (λ m x y r. (statement_sound t m x y r).1) 0 t.statements reads.0 reads.2,
      )

-- ---- the whole

module _ (o : Outline) (catalog : Catalog) (unknown : name_unknown o ≡ None) (limits : over_limit o ≡ None) (resolves : Resolves o catalog) where
  same_sections : sections_of o ≡ sections_in catalog
  same_sections = λ i. record { tables = sym resolves.tables i; streams = sym resolves.streams i; windows = sym resolves.windows i }

  pub resolved_typed : HasTypedSql catalog
  resolved_typed =
      let uses = own_procedure_uses (table_names o) (stream_names o) in
      let sound = procedure_sound o catalog same_sections limits in
      let known = procedures_known o unknown in
      let procedures = λ (test : Procedure → Bool) (each : (n : ℕ) (p : ProcedureOutline) (made : Procedure) → first_unknown (uses p) ≡ None → ProcedureReads o n p (Ok made) → test made ≡ true).
      each_known (λ (p : ProcedureOutline). 1) (ProcedureReads o) test uses each 0 o.procedures catalog.procedures known resolves.procedures in
      let triggers = λ (test : TriggerDef → Bool) (each : (n : ℕ) (t : TriggerOutline) (made : TriggerDef) → TriggerReads o n t (Ok made) → test made ≡ true).
      each_read (λ (t : TriggerOutline). 1) (TriggerReads o) test each 0 o.triggers catalog.triggers resolves.triggers in
      record {
        typed = and_from _ _ (procedures (procedure_typed catalog) (λ n p made k r. (sound n p made k r).0)) (triggers (trigger_typed catalog) (λ n t made r. (trigger_sound o catalog same_sections n t made r).0));
        in_scope = and_from _ _ (procedures (procedure_in_scope catalog) (λ n p made k r. (sound n p made k r).1)) (triggers (trigger_in_scope catalog) (λ n t made r. (trigger_sound o catalog same_sections n t made r).1));
      }
