-- What a catalogue has of its outline, whatever its bodies say.
use Rattle.std.proofs.Common.{◌≡◌, ◌∙◌, ◌+◌, ◌||◌, ℕ, zero, suc, Bool, cond, List, [], ◌∷◌, length, map, slice_get, Option, Some, refl, ap}
use Rattle.std.specs.List.{find, list_any}
use Rattle.ss_model.specs.declared.catalog.Catalog.{Catalog}
use Rattle.ss_model.specs.declared.catalog.Procedure.{Procedure}
use Rattle.ss_model.specs.declared.catalog.Step.{Step}
use Rattle.ss_catalog_outline.specs.declared.types.Outline.{Outline}
use Rattle.ss_catalog_outline.specs.declared.types.ProcedureOutline.{ProcedureOutline}
use Rattle.ss_catalog_resolve.specs.Bodies.{ProcedureReads, procedure_with}
use Rattle.ss_catalog_resolve.specs.InOrder.{AllRead}
use Rattle.ss_catalog_resolve.specs.Numbered.{sections_of}

-- the catalogue of an outline, with empty bodies and no triggers
abbrev pub bodiless : Outline → Catalog
bodiless o = record {
  tables = (sections_of o).tables;
  streams = (sections_of o).streams;
  windows = (sections_of o).windows;
  triggers = [];
  procedures = map (λ (p : ProcedureOutline). procedure_with o p []) o.procedures;
  own_texts = [];
  spares = [];
  text = [];
}

module _ (o : Outline) where
  abbrev AreRead : ℕ → List ProcedureOutline → List Procedure → Type 0
  AreRead = AllRead (λ p. 1) (ProcedureReads o)

  abbrev empty : List ProcedureOutline → List Procedure
  empty ps = map (λ (p : ProcedureOutline). procedure_with o p []) ps

  -- the same number of procedures
  pub as_many : (k : ℕ) (ps : List ProcedureOutline) (qs : List Procedure) → AreRead k ps qs → length qs ≡ length (empty ps)
  as_many k [] qs all = ap (λ (xs : List Procedure). length xs) all
  as_many k (p ∷ ps) [] all = absurd all
  as_many k (p ∷ ps) (q ∷ qs) all = ap suc (as_many (k + 1) ps qs all.1)

  -- what looks at no body says the same of the procedure of a number
  pub alike : {X : Type 0} (f : Option Procedure → X) → ((p : ProcedureOutline) (body : List Step) → f (Some (procedure_with o p body)) ≡ f (Some (procedure_with o p [])))
      → (k : ℕ) (ps : List ProcedureOutline) (qs : List Procedure) → AreRead k ps qs → (n : ℕ) → f (slice_get qs n) ≡ f (slice_get (empty ps) n)
  alike f same k [] qs all n = ap (λ (xs : List Procedure). f (slice_get xs n)) all
  alike f same k (p ∷ ps) [] all n = absurd all
  alike f same k (p ∷ ps) (q ∷ qs) all zero = ap (λ (x : Procedure). f (Some x)) all.0.1 ∙ same p all.0.0
  alike f same k (p ∷ ps) (q ∷ qs) all (suc n) = alike f same (k + 1) ps qs all.1 n

  -- and of some procedure
  pub any_alike : (test : Procedure → Bool) → ((p : ProcedureOutline) (body : List Step) → test (procedure_with o p body) ≡ test (procedure_with o p []))
      → (k : ℕ) (ps : List ProcedureOutline) (qs : List Procedure) → AreRead k ps qs → list_any test qs ≡ list_any test (empty ps)
  any_alike test same k [] qs all = ap (λ (xs : List Procedure). list_any test xs) all
  any_alike test same k (p ∷ ps) [] all = absurd all
  any_alike test same k (p ∷ ps) (q ∷ qs) all =
      ap (λ b. b || list_any test qs) (ap test all.0.1 ∙ same p all.0.0)
      ∙ ap (λ b. test (procedure_with o p []) || b) (any_alike test same (k + 1) ps qs all.1)

-- tests that say the same find the same
pub find_alike : {A : Type 0} (p q : A → Bool) → ((x : A) → p x ≡ q x) → (xs : List A) → find p xs ≡ find q xs
find_alike p q same [] = refl
find_alike p q same (x ∷ xs) = ap (λ b. cond b (Some x) (find p xs)) (same x) ∙ ap (λ found. cond (q x) (Some x) found) (find_alike p q same xs)
