-- An outline resolves to one catalogue at most, but for its texts, or its SQL has one first fault at most, and not both.
use Rattle.std.proofs.Common.{◌≡◌, sym, ◌∙◌, inl, inr}
use Rattle.ss_model.specs.declared.catalog.Catalog.{Catalog}
use Rattle.ss_catalog_outline.specs.declared.types.TriggerOutline.{TriggerOutline}
use Rattle.ss_catalog_outline.specs.declared.types.ProcedureOutline.{ProcedureOutline}
use Rattle.ss_catalog_outline.specs.declared.types.Outline.{Outline}
use Rattle.ss_catalog_resolve.specs.declared.fault.SqlSite.{SqlSite}
use Rattle.ss_catalog_resolve.specs.Bodies.{ProcedureReads, TriggerReads, Resolves, FaultAt}
use Rattle.ss_catalog.proofs.Kept.{IsSameCatalog}
use Rattle.ss_catalog.proofs.OneAnswer.{all_same, none_faulty, first_same}
use Rattle.ss_catalog.proofs.Texts.{SqlLaws}
use Rattle.ss_catalog.proofs.BodiesOnce.{procedure_once, trigger_once}

module _ (laws : SqlLaws) (o : Outline) where
  pub resolved_same : (a b : Catalog) → Resolves o a → Resolves o b → IsSameCatalog a b
  resolved_same a b h k = record {
    tables = h.tables ∙ sym k.tables;
    streams = h.streams ∙ sym k.streams;
    windows = h.windows ∙ sym k.windows;
    triggers = all_same (λ (t : TriggerOutline). 1) (TriggerReads o) (trigger_once laws o) 0 o.triggers a.triggers b.triggers h.triggers k.triggers;
    procedures = all_same (λ (p : ProcedureOutline). 1) (ProcedureReads o) (procedure_once laws o) 0 o.procedures a.procedures b.procedures h.procedures k.procedures;
    spares = h.spares ∙ sym k.spares;
  }

  pub resolved_or_faulty : (a : Catalog) (site : SqlSite) → Resolves o a → FaultAt o site → ⊥
  resolved_or_faulty a site h (inl k) = none_faulty (λ (p : ProcedureOutline). 1) (ProcedureReads o) (procedure_once laws o) 0 o.procedures a.procedures site h.procedures k
  resolved_or_faulty a site h (inr k) = none_faulty (λ (t : TriggerOutline). 1) (TriggerReads o) (trigger_once laws o) 0 o.triggers a.triggers site h.triggers k.2

  pub fault_same : (site other : SqlSite) → FaultAt o site → FaultAt o other → site ≡ other
  fault_same site other (inl h) (inl k) = first_same (λ (p : ProcedureOutline). 1) (ProcedureReads o) (procedure_once laws o) 0 o.procedures site other h k
  fault_same site other (inl h) (inr k) = absurd (none_faulty (λ (p : ProcedureOutline). 1) (ProcedureReads o) (procedure_once laws o) 0 o.procedures k.0 site k.1 h)
  fault_same site other (inr h) (inl k) = absurd (none_faulty (λ (p : ProcedureOutline). 1) (ProcedureReads o) (procedure_once laws o) 0 o.procedures h.0 other h.1 k)
  fault_same site other (inr h) (inr k) = first_same (λ (t : TriggerOutline). 1) (TriggerReads o) (trigger_once laws o) 0 o.triggers site other h.2 k.2
