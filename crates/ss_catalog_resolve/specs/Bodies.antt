-- What the procedures and triggers of an outline say, and the whole.
use Rattle.std.specs.Prelude.{◌≡◌, ◌⊎◌, ℕ, List, [], Result, Ok, Err}
use Rattle.ss_sql_trees.specs.declared.typed.Statement.{Statement}
use Rattle.ss_model.specs.declared.catalog.Catalog.{Catalog}
use Rattle.ss_model.specs.declared.catalog.Procedure.{Procedure}
use Rattle.ss_model.specs.declared.catalog.Step.{Step}
use Rattle.ss_model.specs.declared.catalog.TriggerDef.{TriggerDef}
use Rattle.ss_catalog_outline.specs.declared.types.TriggerOutline.{TriggerOutline}
use Rattle.ss_catalog_outline.specs.declared.types.ProcedureOutline.{ProcedureOutline}
use Rattle.ss_catalog_outline.specs.declared.types.Outline.{Outline}
use Rattle.ss_catalog_outline.specs.Limits.{step_count}
use Rattle.ss_catalog_resolve.specs.Numbered.{sections_of, on_of, inputs_of, touch_of}
use Rattle.ss_catalog_resolve.specs.declared.fault.BodyFault.{BodyFault}
use Rattle.ss_catalog_resolve.specs.declared.fault.SqlSite.{SqlSite}
use Rattle.ss_catalog_resolve.specs.declared.fault.SqlRefusal.{SqlRefusal}
use Rattle.ss_catalog_resolve.specs.declared.fault.SqlRefusal.TheVariants as refused
use Rattle.ss_catalog_resolve.specs.Texts.{StatementSays}
use Rattle.ss_catalog_resolve.specs.Scopes.{trigger_scope}
use Rattle.ss_catalog_resolve.specs.InOrder.{AllRead, FirstFault, InOrder}
use Rattle.ss_catalog_resolve.specs.Steps.{OfText, StepReads}

-- a fault in the body of this name, as one of the outline
abbrev pub site_of : List ℕ → BodyFault → SqlSite
site_of name f = record { name = name; number = f.number; fault = f.fault }

-- the refusal of a body, as one of the procedure or trigger of this name; `NoMemory` may always come, since the name is copied
abbrev pub IsSiteOf : List ℕ → SqlRefusal BodyFault → SqlRefusal SqlSite → Type 0
IsSiteOf name r refused.NoMemory = Unit {0}
IsSiteOf name refused.NoMemory (refused.Fault site) = ⊥
IsSiteOf name (refused.Fault f) (refused.Fault site) = site ≡ site_of name f

-- something named that is made of a list which is read in order
module _ {A B : Type 0} (name : List ℕ) (made : List A → B) (Reads : Result (List A) BodyFault → Type 0) where
  abbrev pub OfBody : Result B SqlSite → Type 0
  OfBody (Ok b) = (xs : List A) × (b ≡ made xs) × Reads (Ok xs)
  OfBody (Err site) = (f : BodyFault) × (site ≡ site_of name f) × Reads (Err f)

module _ (o : Outline) where
  -- ---- procedures

  -- a procedure with this body
  abbrev pub procedure_with : ProcedureOutline → List Step → Procedure
  procedure_with p body = record {
    name = p.name;
    kind = p.kind;
    args = p.args;
    inputs = inputs_of o p;
    inner = [];
    touch = touch_of p.args p.touch;
    body = body;
  }

  -- a procedure: its steps in document order
  abbrev pub ProcedureReads : ℕ → ProcedureOutline → Result Procedure SqlSite → Type 0
  ProcedureReads n p = OfBody p.name (procedure_with p) (InOrder step_count (StepReads o p) 0 p.body)

  -- ---- triggers

  -- a statement of a trigger is what its text says
  abbrev pub StatementReads : TriggerOutline → ℕ → List ℕ → Result Statement BodyFault → Type 0
  StatementReads t n text = OfText n (λ s. s) (StatementSays (trigger_scope (sections_of o) (on_of o t.on)) text)

  -- a trigger with these statements
  abbrev pub trigger_with : TriggerOutline → List Statement → TriggerDef
  trigger_with t statements = record { name = t.name; on = on_of o t.on; statements = statements }

  -- a trigger: its statements in order
  abbrev pub TriggerReads : ℕ → TriggerOutline → Result TriggerDef SqlSite → Type 0
  TriggerReads n t = OfBody t.name (trigger_with t) (InOrder (λ s. 1) (StatementReads t) 0 t.statements)

  -- ---- the whole

  -- an outline resolves to a catalogue, whatever texts that has; no body may be installed yet
  pub record Resolves (catalog : Catalog) : Type 0 where
    pub tables : catalog.tables ≡ (sections_of o).tables
    pub streams : catalog.streams ≡ (sections_of o).streams
    pub windows : catalog.windows ≡ (sections_of o).windows
    pub procedures : AllRead (λ p. 1) ProcedureReads 0 o.procedures catalog.procedures
    pub triggers : AllRead (λ t. 1) TriggerReads 0 o.triggers catalog.triggers
    pub spares : catalog.spares ≡ []

  -- the first fault: those of procedures go before those of triggers
  abbrev pub FaultAt : SqlSite → Type 0
  FaultAt site =
      FirstFault (λ p. 1) ProcedureReads 0 o.procedures site
      ⊎ ((ps : List Procedure) × AllRead (λ p. 1) ProcedureReads 0 o.procedures ps × FirstFault (λ t. 1) TriggerReads 0 o.triggers site)

  -- the procedures and then the triggers, or the first fault
  abbrev pub BodiesRead : Result (List Procedure × List TriggerDef) SqlSite → Type 0
  BodiesRead (Ok bodies) = AllRead (λ p. 1) ProcedureReads 0 o.procedures bodies.0 × AllRead (λ t. 1) TriggerReads 0 o.triggers bodies.1
  BodiesRead (Err site) = FaultAt site
