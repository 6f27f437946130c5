-- The catalogue of an outline with other steps of one procedure is that of the outline, with another body of this procedure.
use Rattle.std.proofs.Common.{◌≡◌, ◌∙◌, ◌+◌, ◌==◌, ◌≢◌, ◌⊎◌, inl, inr, ℕ, zero, suc, cond, Bool, true, false, List, [], ◌∷◌, map, set, slice_get, Option, Some, None, refl, sym, ap, subst, arith}
use Rattle.std.specs.Prelude.{Result, unwrap_or, option_map}
use Rattle.std.proofs.lemmas.Bool.Decides.{eqb_tells}
use Rattle.ss_lemmas.proofs.Numbers.{eqb_self}
use Rattle.ss_value.specs.declared.schema.Column.{Column}
use Rattle.ss_sql_trees.specs.declared.typed.Condition.{Condition}
use Rattle.ss_sql_trees.specs.declared.typed.Statement.{Statement}
use Rattle.ss_sql_type.specs.declared.scope.Scope.{Scope}
use Rattle.ss_model.specs.declared.catalog.Inner.{Inner}
use Rattle.ss_model.specs.declared.catalog.Inner.TheVariants.{Sql as InnerSql, AbortIf as InnerAbortIf}
use Rattle.ss_model.specs.declared.catalog.Step.{Step}
use Rattle.ss_model.specs.declared.catalog.Step.TheVariants.{Sql, AbortIf, ForEach, Emit, Return}
use Rattle.ss_model.specs.declared.catalog.Procedure.{Procedure}
use Rattle.ss_model.specs.declared.catalog.TriggerDef.{TriggerDef}
use Rattle.ss_model.specs.declared.catalog.Catalog.{Catalog}
use Rattle.ss_model.specs.Results.{map_indexed}
use Rattle.ss_model.specs.Database.{with_body}
use Rattle.ss_model.specs.AcceptedBodies.{with_body_at}
use Rattle.ss_catalog_outline.specs.declared.types.InnerOutline.{InnerOutline}
use Rattle.ss_catalog_outline.specs.declared.types.InnerOutline.TheVariants.{Sql as SqlInside, AbortIf as AbortIfInside}
use Rattle.ss_catalog_outline.specs.declared.types.StepOutline.{StepOutline}
use Rattle.ss_catalog_outline.specs.declared.types.StepOutline.TheVariants as outline
use Rattle.ss_catalog_outline.specs.declared.types.ProcedureOutline.{ProcedureOutline}
use Rattle.ss_catalog_outline.specs.declared.types.TriggerOutline.{TriggerOutline}
use Rattle.ss_catalog_outline.specs.declared.types.Outline.{Outline}
use Rattle.ss_catalog_outline.specs.Limits.{step_count}
use Rattle.ss_catalog_outline.specs.Names.{procedure_name}
use Rattle.ss_catalog_resolve.specs.declared.definitions.Sections.{Sections}
use Rattle.ss_catalog_resolve.specs.declared.fault.BodyFault.{BodyFault}
use Rattle.ss_catalog_resolve.specs.declared.fault.SqlSite.{SqlSite}
use Rattle.ss_catalog_resolve.specs.Numbers.{number_in}
use Rattle.ss_catalog_resolve.specs.Numbered.{window_of, sections_of, on_of, inputs_of}
use Rattle.ss_catalog_resolve.specs.Scopes.{procedure_scope, trigger_scope}
use Rattle.ss_catalog_resolve.specs.Texts.{StatementSays, ConditionSays, QuerySays}
use Rattle.ss_catalog_resolve.specs.InOrder.{AllRead, InOrder}
use Rattle.ss_catalog_resolve.specs.Steps.{OfText, OfList, stream_number, columns_of_stream, step_scope, InnerReads, StepReads}
use Rattle.ss_catalog_resolve.specs.Bodies.{OfBody, procedure_with, ProcedureReads, trigger_with, TriggerReads, Resolves}
use Rattle.ss_catalog.proofs.Kept.{IsSameCatalog}
use Rattle.ss_catalog.proofs.OneAnswer.{all_same}
use Rattle.ss_catalog.proofs.Texts.{SqlLaws, some_same}
use Rattle.ss_catalog.proofs.BodiesOnce.{procedure_once, trigger_once}
use Rattle.ss_catalog.proofs.InPlace.{outline_with}

-- ---- names

names_as_before : (ps : List ProcedureOutline) (q : ℕ) (p : ProcedureOutline) (steps : List StepOutline) → slice_get ps q ≡ Some p
    → map procedure_name (set ps q (record p { body = steps })) ≡ map procedure_name ps
names_as_before [] q p steps is = absurd (cc)
names_as_before (x ∷ ps) zero p steps is = ap (λ (y : ProcedureOutline). procedure_name y ∷ map procedure_name ps) (sym (some_same (Some x) x p refl is))
names_as_before (x ∷ ps) (suc q) p steps is = ap (λ (names : List (List ℕ)). procedure_name x ∷ names) (names_as_before ps q p steps is)

module _ (o : Outline) (q : ℕ) (p : ProcedureOutline) (is : slice_get o.procedures q ≡ Some p) (steps : List StepOutline) where
  abbrev pub other : Outline
  other = outline_with o q p steps

  same_sections : sections_of other ≡ sections_of o
  same_sections = λ i. record {
    tables = (sections_of o).tables;
    streams = (sections_of o).streams;
    windows = map (window_of (names_as_before o.procedures q p steps is i)) o.windows;
  }

  -- ---- what is read as before

  same_scope : (r : ProcedureOutline) (params : List Column) (out : Option (List Column)) → step_scope other r params out ≡ step_scope o r params out
  same_scope r params out = ap (λ (s : Sections). procedure_scope s (inputs_of o r) params out) same_sections

  module _ (r : ProcedureOutline) where
    inner_as_before : (params : List Column) (n : ℕ) (i : InnerOutline) → InnerReads other r params n i ≡ InnerReads o r params n i
    inner_as_before params n (SqlInside text) = ap (λ (s : Scope). OfText n InnerSql (StatementSays s text)) (same_scope r params None)
    inner_as_before params n (AbortIfInside test code) = ap (λ (s : Scope). OfText n (λ (c : Condition). InnerAbortIf c code) (ConditionSays s test)) (same_scope r params None)

    step_as_before : (n : ℕ) (s : StepOutline) → StepReads other r n s ≡ StepReads o r n s
    step_as_before n (outline.Insert table values) = refl
    step_as_before n (outline.ReturnAll table) = refl
    step_as_before n (outline.Sql text) = ap (λ (s : Scope). OfText n Sql (StatementSays s text)) (same_scope r r.args None)
    step_as_before n (outline.AbortIf test code) = ap (λ (s : Scope). OfText n (λ (c : Condition). AbortIf c code) (ConditionSays s test)) (same_scope r r.args None)
    step_as_before n (outline.ForEach stream body) =
        ap (λ (reads : ℕ → InnerOutline → Result Inner BodyFault → Type 0). OfList (ForEach (number_in r.inputs stream)) (InOrder (λ i. 1) reads (n + 1) body))
        (λ i k x. inner_as_before (columns_of_stream o stream) k x i)
    step_as_before n (outline.Emit stream query) =
        ap (λ (s : Scope). OfText n (Emit (stream_number o stream)) (QuerySays s query)) (same_scope r r.args (Some (columns_of_stream o stream)))
    step_as_before n (outline.Return query) = ap (λ (s : Scope). OfText n Return (QuerySays s query)) (same_scope r r.args None)

  procedure_as_before : (n : ℕ) (r : ProcedureOutline) → ProcedureReads other n r ≡ ProcedureReads o n r
  procedure_as_before n r =
      ap (λ (reads : ℕ → StepOutline → Result Step BodyFault → Type 0). OfBody r.name (procedure_with o r) (InOrder step_count reads 0 r.body)) (λ i k s. step_as_before r k s i)

  trigger_as_before : (n : ℕ) (t : TriggerOutline) → TriggerReads other n t ≡ TriggerReads o n t
  trigger_as_before n t =
      ap (λ (s : Sections). OfBody t.name (trigger_with o t) (InOrder (λ x. 1) (λ k text. OfText k (λ (x : Statement). x) (StatementSays (trigger_scope s (on_of o t.on)) text)) 0 t.statements)) same_sections

-- ---- lists of procedures

-- these steps of procedure q, and of the others their own
pub record Chosen (q : ℕ) (body : List Step) (ps : List Procedure) (bodies : ℕ → List Step) : Type 0 where
  pub here : bodies q ≡ body
  pub beside : (n : ℕ) (d : Procedure) → (n ≡ q → ⊥) → slice_get ps n ≡ Some d → bodies n ≡ d.body

module _ (laws : SqlLaws) (o : Outline) where
  abbrev AreRead : ℕ → List ProcedureOutline → List Procedure → Type 0
  AreRead = AllRead (λ p. 1) (ProcedureReads o)

  -- a procedure with its own body
  own : (d : Procedure) (body : List Step) → body ≡ d.body → with_body body d ≡ d
  own d body same = ap (λ (b : List Step). with_body b d) same

  all_own : (ps : List Procedure) (bodies : ℕ → List Step) → ((n : ℕ) (d : Procedure) → slice_get ps n ≡ Some d → bodies n ≡ d.body) → map_indexed (λ n d. with_body (bodies n) d) ps ≡ ps
  all_own [] bodies each = refl
  all_own (d ∷ ps) bodies each = λ i. own d (bodies 0) (each 0 d refl) i ∷ all_own ps (λ n. bodies (suc n)) (λ n. each (suc n)) i

  next : (m n : ℕ) → suc m ≡ suc n → m ≡ n
  next m n same = omega arith

  none_next : (n : ℕ) → suc n ≡ 0 → ⊥
  none_next n same = absurd (omega arith)

  none_before : (n : ℕ) → 0 ≡ suc n → ⊥
  none_before n same = absurd (omega arith)

  pub one_changed : (k q : ℕ) (ps : List ProcedureOutline) (p : ProcedureOutline) (steps : List StepOutline) (xs ys : List Procedure) (x : Procedure) (bodies : ℕ → List Step)
      → slice_get ps q ≡ Some p → AreRead k (set ps q (record p { body = steps })) xs → AreRead k ps ys → slice_get xs q ≡ Some x → Chosen q x.body ys bodies
      → xs ≡ map_indexed (λ n d. with_body (bodies n) d) ys
  one_changed k q [] p steps xs ys x bodies is h b at chosen = absurd (cc)
  one_changed k zero (r ∷ ps) p steps [] ys x bodies is h b at chosen = absurd h
  one_changed k zero (r ∷ ps) p steps (y ∷ xs) [] x bodies is h b at chosen = absurd b
  one_changed k zero (r ∷ ps) p steps (y ∷ xs) (z ∷ ys) x bodies is h b at chosen =
      let same_outline : r ≡ p = some_same (Some r) r p refl is in
      let found : y ≡ x = some_same (Some y) y x refl at in
      let read : y ≡ procedure_with o p h.0.0 = h.0.1 in
      let before : z ≡ procedure_with o p b.0.0 = b.0.1 ∙ ap (λ (r : ProcedureOutline). procedure_with o r b.0.0) same_outline in
      let body : bodies 0 ≡ h.0.0 = chosen.here ∙ ap (λ (d : Procedure). d.body) (sym found ∙ read) in
      let rest = all_same (λ (p : ProcedureOutline). 1) (ProcedureReads o) (procedure_once laws o) (k + 1) ps xs ys h.1 b.1 in
      let unchanged = all_own ys (λ n. bodies (suc n)) (λ n d. chosen.beside (suc n) d (none_next n)) in
      let first : y ≡ with_body (bodies 0) z = read ∙ sym (ap (λ (d : Procedure). with_body h.0.0 d) before) ∙ ap (λ (b : List Step). with_body b z) (sym body) in
      λ i. first i ∷ (rest ∙ sym unchanged) i
  one_changed k (suc q) (r ∷ ps) p steps [] ys x bodies is h b at chosen = absurd h
  one_changed k (suc q) (r ∷ ps) p steps (y ∷ xs) [] x bodies is h b at chosen = absurd b
  one_changed k (suc q) (r ∷ ps) p steps (y ∷ xs) (z ∷ ys) x bodies is h b at chosen =
      let first = (procedure_once laws o k r).same y z h.0 b.0 ∙ sym (own z (bodies 0) (chosen.beside 0 z (none_before q) refl)) in
      let rest = one_changed (k + 1) q ps p steps xs ys x (λ n. bodies (suc n)) is h.1 b.1 at
      (record { here = chosen.here; beside = λ n d apart. chosen.beside (suc n) d (λ same. apart (next n q same)) }) in
      λ i. first i ∷ rest i

-- the steps that `with_body_at` chooses
module _ (c : Catalog) (q : ℕ) (body : List Step) where
  abbrev bodies : ℕ → List Step
  bodies n = cond (n == q) body (unwrap_or (option_map (λ (p : Procedure). p.body) (slice_get c.procedures n)) [])

  by_test : (n : ℕ) (d : Procedure) → (n ≡ q → ⊥) → slice_get c.procedures n ≡ Some d → ((n == q ≡ true) × (n ≡ q)) ⊎ ((n == q ≡ false) × (n ≢ q)) → bodies n ≡ d.body
  by_test n d apart is (inl t) = absurd (apart t.1)
  by_test n d apart is (inr t) =
      ap (λ (b : Bool). cond b body (unwrap_or (option_map (λ (p : Procedure). p.body) (slice_get c.procedures n)) [])) t.0
      ∙ ap (λ (x : Option Procedure). unwrap_or (option_map (λ (p : Procedure). p.body) x) []) is

  chosen_at : Chosen q body c.procedures bodies
  chosen_at = record {
    here = ap (λ (b : Bool). cond b body (unwrap_or (option_map (λ (p : Procedure). p.body) (slice_get c.procedures q)) [])) (eqb_self q);
    beside = λ n d apart is. by_test n d apart is (eqb_tells n q);
  }

-- ---- the whole

module _ (laws : SqlLaws) (o : Outline) (q : ℕ) (p : ProcedureOutline) (is : slice_get o.procedures q ≡ Some p) (steps : List StepOutline) where
  pub changed_in_place : (base changed : Catalog) (x : Procedure) → Resolves o base → Resolves (other o q p is steps) changed → slice_get changed.procedures q ≡ Some x
      → IsSameCatalog changed (with_body_at base q x.body)
  changed_in_place base changed x b h at = record {
    tables = h.tables ∙ sym b.tables;
    streams = h.streams ∙ sym b.streams;
    windows = h.windows ∙ ap (λ (s : Sections). s.windows) (same_sections o q p is steps) ∙ sym b.windows;
    triggers = all_same (λ (t : TriggerOutline). 1) (TriggerReads o) (trigger_once laws o) 0 o.triggers changed.triggers base.triggers
        (subst (λ (reads : ℕ → TriggerOutline → Result TriggerDef SqlSite → Type 0). AllRead (λ t. 1) reads 0 o.triggers changed.triggers) (λ i n t. trigger_as_before o q p is steps n t i) h.triggers) b.triggers;
    procedures = one_changed laws o 0 q o.procedures p steps changed.procedures base.procedures x _ is
        (subst (λ (reads : ℕ → ProcedureOutline → Result Procedure SqlSite → Type 0). AllRead (λ r. 1) reads 0 (set o.procedures q (record p { body = steps })) changed.procedures) (λ i n r. procedure_as_before o q p is steps n r i) h.procedures)
        b.procedures at (chosen_at base q x.body);
    spares = h.spares ∙ sym b.spares;
  }
