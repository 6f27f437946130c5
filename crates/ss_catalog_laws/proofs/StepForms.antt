-- The form of the steps that an outline's steps resolve to.
use Rattle.std.proofs.Common.{◌≡◌, ◌+◌, ◌∙◌, ℕ, List, length, map, true, not, refl, ap, sym, subst, Option, None, Some, Result, Ok}
use Rattle.std.specs.Prelude.{ℤ}
use Rattle.std.specs.List.{AllByRecursion}
use Rattle.ss_sql_trees.specs.declared.typed.Condition.{Condition}
use Rattle.ss_sql_trees.specs.declared.typed.Query.{Query}
use Rattle.ss_sql_trees.specs.declared.typed.Statement.{Statement}
use Rattle.ss_model.specs.declared.catalog.Inner.{Inner}
use Rattle.ss_model.specs.declared.catalog.ProcedureKind.{ProcedureKind}
use Rattle.ss_model.specs.declared.catalog.ProcedureKind.TheVariants.{Call as CallKind, Border, Interior}
use Rattle.ss_model.specs.declared.catalog.Step.{Step}
use Rattle.ss_model.specs.declared.catalog.Step.TheVariants.{Sql, AbortIf, ForEach, Emit, Local, Return}
use Rattle.ss_model.specs.Accepted.{IsCallStep}
use Rattle.ss_model.specs.CatalogForm.{step_of_kind, step_size}
use Rattle.ss_model.specs.Database.{is_call}
use Rattle.ss_model.specs.Nests.{is_plain_step}
use Rattle.ss_catalog_outline.specs.declared.types.StepOutline.{StepOutline}
use Rattle.ss_catalog_outline.specs.declared.types.StepOutline.TheVariants as outline
use Rattle.ss_catalog_outline.specs.declared.types.ProcedureOutline.{ProcedureOutline}
use Rattle.ss_catalog_outline.specs.declared.types.Outline.{Outline}
use Rattle.ss_catalog_outline.specs.Limits.{step_count}
use Rattle.ss_catalog_resolve.specs.declared.fault.SqlFault.{SqlFault}
use Rattle.ss_catalog_resolve.specs.declared.fault.BodyFault.{BodyFault}
use Rattle.ss_catalog_resolve.specs.InOrder.{AllRead}
use Rattle.ss_catalog_resolve.specs.Steps.{unless_fault, columns_of_stream, InnerReads, StepReads}
use Rattle.ss_catalog_laws.proofs.InOrder.{each_read, map_read, length_read}
use Rattle.ss_catalog_laws.proofs.ProceduresRead.{StandsIn}

-- ---- which step

-- a step that this one resolves to
abbrev IsStepOf : StepOutline → Step → Type 0
IsStepOf (outline.Insert table values) b = (s : Statement) × (b ≡ Sql s)
IsStepOf (outline.ReturnAll table) b = (q : Query) × (b ≡ Return q)
IsStepOf (outline.Sql text) b = (s : Statement) × (b ≡ Sql s)
IsStepOf (outline.AbortIf test code) b = (c : Condition) × (b ≡ AbortIf c code)
IsStepOf (outline.ForEach stream body) b = (input : ℕ) × (xs : List Inner) × (b ≡ ForEach input xs) × (length xs ≡ length body)
IsStepOf (outline.Emit stream query) b = (s : ℕ) × (q : Query) × (b ≡ Emit s q)
IsStepOf (outline.Return query) b = (q : Query) × (b ≡ Return q)

ok_is : (b c : Step) → ◌≡◌ {A = Result Step BodyFault} (Ok b) (Ok c) → b ≡ c
ok_is b c e = cc

-- where nothing is at fault
unless_is : {B : Type 0} (n : ℕ) (fault : Option SqlFault) (b c : B) → Ok c ≡ unless_fault n fault b → c ≡ b
unless_is n None b c e = cc
unless_is n (Some fault) b c e = absurd (cc)

module _ (o : Outline) (p : ProcedureOutline) where
  step_is : (n : ℕ) (s : StepOutline) (b : Step) → StepReads o p n s (Ok b) → IsStepOf s b
  step_is n (outline.Insert table values) b r = (_, unless_is n _ _ b r)
  step_is n (outline.ReturnAll table) b r = (_, ok_is b _ r)
  step_is n (outline.Sql text) b r = (r.0, r.1)
  step_is n (outline.AbortIf test code) b r = (r.0, r.1)
  step_is n (outline.ForEach stream body) b r = (_, r.0, r.1, length_read (λ i. 1) (InnerReads o p (columns_of_stream o stream)) (n + 1) body r.0 r.2)
  step_is n (outline.Emit stream query) b r = (_, r.0, r.1)
  step_is n (outline.Return query) b r = (r.0, r.1)

-- ---- which kinds may have it

sql_stands : (kind : ProcedureKind) (s : Statement) → step_of_kind kind (Sql s) ≡ true
sql_stands CallKind s = refl
sql_stands Border s = refl
sql_stands Interior s = refl

abort_stands : (kind : ProcedureKind) (c : Condition) (code : ℤ) → step_of_kind kind (AbortIf c code) ≡ true
abort_stands CallKind c code = refl
abort_stands Border c code = refl
abort_stands Interior c code = refl

for_each_stands : (kind : ProcedureKind) (input : ℕ) (xs : List Inner) → not (is_call kind) ≡ true → step_of_kind kind (ForEach input xs) ≡ true
for_each_stands CallKind input xs h = h
for_each_stands Border input xs h = h
for_each_stands Interior input xs h = h

emit_stands : (kind : ProcedureKind) (s : ℕ) (q : Query) → not (is_call kind) ≡ true → step_of_kind kind (Emit s q) ≡ true
emit_stands CallKind s q h = h
emit_stands Border s q h = h
emit_stands Interior s q h = h

return_stands : (kind : ProcedureKind) (q : Query) → is_call kind ≡ true → step_of_kind kind (Return q) ≡ true
return_stands CallKind q h = h
return_stands Border q h = h
return_stands Interior q h = h

-- a step of its kind
abbrev pub IsOfKind : ProcedureKind → Step → Type 0
IsOfKind kind b = step_of_kind kind b ≡ true

stands_by : (kind : ProcedureKind) (s : StepOutline) (b : Step) → IsStepOf s b → StandsIn kind s → IsOfKind kind b
stands_by kind (outline.Insert table values) b is may = subst (IsOfKind kind) (sym is.1) (sql_stands kind is.0)
stands_by kind (outline.ReturnAll table) b is may = subst (IsOfKind kind) (sym is.1) (return_stands kind is.0 may)
stands_by kind (outline.Sql text) b is may = subst (IsOfKind kind) (sym is.1) (sql_stands kind is.0)
stands_by kind (outline.AbortIf test code) b is may = subst (IsOfKind kind) (sym is.1) (abort_stands kind is.0 code)
stands_by kind (outline.ForEach stream body) b is may = subst (IsOfKind kind) (sym is.2) (for_each_stands kind is.0 is.1 may)
stands_by kind (outline.Emit stream query) b is may = subst (IsOfKind kind) (sym is.2) (emit_stands kind is.0 is.1 may)
stands_by kind (outline.Return query) b is may = subst (IsOfKind kind) (sym is.1) (return_stands kind is.0 may)

-- a step of a call procedure
pub call_step : (kind : ProcedureKind) (b : Step) → is_call kind ≡ true → IsOfKind kind b → IsCallStep b
call_step CallKind (Sql s) call h = tt
call_step CallKind (AbortIf c code) call h = tt
call_step CallKind (Return q) call h = tt
call_step CallKind (ForEach input xs) call h = absurd (cc)
call_step CallKind (Emit s q) call h = absurd (cc)
call_step CallKind (Local s q) call h = absurd (cc)
call_step Border b call h = absurd (cc)
call_step Interior b call h = absurd (cc)

-- ---- its size

size_by : (s : StepOutline) (b : Step) → IsStepOf s b → step_size b ≡ step_count s
size_by (outline.Insert table values) b is = ap step_size is.1
size_by (outline.ReturnAll table) b is = ap step_size is.1
size_by (outline.Sql text) b is = ap step_size is.1
size_by (outline.AbortIf test code) b is = ap step_size is.1
size_by (outline.ForEach stream body) b is = ap step_size is.2 ∙ ap (λ k. 1 + k) is.3
size_by (outline.Emit stream query) b is = ap step_size is.2
size_by (outline.Return query) b is = ap step_size is.1

-- ---- it is no step on an inner stream

-- a step as it is written
abbrev pub IsPlainStep : Step → Type 0
IsPlainStep b = is_plain_step b ≡ true

plain_by : (s : StepOutline) (b : Step) → IsStepOf s b → IsPlainStep b
plain_by (outline.Insert table values) b is = ap is_plain_step is.1
plain_by (outline.ReturnAll table) b is = ap is_plain_step is.1
plain_by (outline.Sql text) b is = ap is_plain_step is.1
plain_by (outline.AbortIf test code) b is = ap is_plain_step is.1
plain_by (outline.ForEach stream body) b is = ap is_plain_step is.2
plain_by (outline.Emit stream query) b is = ap is_plain_step is.2
plain_by (outline.Return query) b is = ap is_plain_step is.1

-- ---- the steps of a body

module _ (o : Outline) (p : ProcedureOutline) (body : List Step) (read : AllRead step_count (StepReads o p) 0 p.body body) where
  pub body_stands : AllByRecursion (StandsIn p.kind) p.body → AllByRecursion (IsOfKind p.kind) body
  body_stands all = each_read step_count (StepReads o p) (StandsIn p.kind) (IsOfKind p.kind) (λ n s b r may. stands_by p.kind s b (step_is o p n s b r) may) 0 p.body body read all

  pub body_sizes : map step_size body ≡ map step_count p.body
  body_sizes = map_read step_count (StepReads o p) step_size step_count (λ n s b r. size_by s b (step_is o p n s b r)) 0 p.body body read

  pub body_plain : AllByRecursion (λ (s : StepOutline). Unit {0}) p.body → AllByRecursion IsPlainStep body
  body_plain all = each_read step_count (StepReads o p) (λ (s : StepOutline). Unit {0}) IsPlainStep (λ n s b r none. plain_by s b (step_is o p n s b r)) 0 p.body body read all
