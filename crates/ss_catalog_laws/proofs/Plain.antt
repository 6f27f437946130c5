-- A catalogue that an outline resolves to has no inner streams, and no steps on them.
use Rattle.std.proofs.Common.{◌≡◌, ℕ, List, [], true, refl, sym, subst, Ok}
use Rattle.std.specs.List.{list_all}
use Rattle.ss_model.specs.declared.catalog.Catalog.{Catalog}
use Rattle.ss_model.specs.declared.catalog.Procedure.{Procedure}
use Rattle.ss_model.specs.Nests.{IsPlain, is_plain_step}
use Rattle.ss_catalog_outline.specs.declared.types.StepOutline.{StepOutline}
use Rattle.ss_catalog_outline.specs.declared.types.ProcedureOutline.{ProcedureOutline}
use Rattle.ss_catalog_outline.specs.declared.types.Outline.{Outline}
use Rattle.ss_catalog_resolve.specs.Bodies.{ProcedureReads, Resolves}
use Rattle.ss_catalog_laws.proofs.InOrder.{each_read}
use Rattle.ss_catalog_laws.proofs.StepForms.{IsPlainStep, body_plain}
use Rattle.ss_lemmas.proofs.EachOf.{all_pass, all_such, all_at}

-- a procedure as it is written
abbrev IsPlainProcedure : Procedure → Type 0
IsPlainProcedure p = (p.inner ≡ []) × (list_all is_plain_step p.body ≡ true)

plain_procedure : (o : Outline) (p : ProcedureOutline) (n : ℕ) (q : Procedure) → ProcedureReads o n p (Ok q) → IsPlainProcedure q
plain_procedure o p n q r =
    subst IsPlainProcedure (sym r.1)
    (refl, all_pass IsPlainStep is_plain_step (λ b h. h) r.0 (body_plain o p r.0 r.2 (all_such (λ (s : StepOutline). Unit {0}) (λ s. tt) p.body)))

pub resolved_plain : (o : Outline) (catalog : Catalog) → Resolves o catalog → IsPlain catalog
resolved_plain o catalog r =
    all_at IsPlainProcedure catalog.procedures
    (each_read (λ p. 1) (ProcedureReads o) (λ (p : ProcedureOutline). Unit {0}) IsPlainProcedure (λ n p q e none. plain_procedure o p n q e) 0 o.procedures catalog.procedures r.procedures
    (all_such (λ (p : ProcedureOutline). Unit {0}) (λ p. tt) o.procedures))
