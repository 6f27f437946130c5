-- Which body a text is the text of, or that it is of none.
use Rattle.std.proofs.Common.{◌≡◌, ◌∙◌, ℕ, cond, Bool, true, false, List, Some, None, refl, sym, ap, subst, IsUtf8, IfSome}
use Rattle.std.specs.Str.{bytes_eq}
use Rattle.std.proofs.lemmas.Bool.{both_ways}
use Rattle.std.proofs.lemmas.Slice.Eq.{bytes_eq-Decides}
use Rattle.serde_json.specs.Data.{Data}
use Rattle.serde_json.specs.Read.{read}
use Rattle.ss_model.specs.declared.catalog.Body.{Body}
use Rattle.ss_model.specs.declared.catalog.Catalog.{Catalog}
use Rattle.ss_catalog.specs.declared.error.CatalogError.{CatalogError}
use Rattle.ss_catalog.specs.Bodies.{BodyReads, RefusesBody, MayHave, IsBodyOf, IsBodyIfAny, is_no_memory, HasOneBody, IsBodyOrRefused}
use Rattle.ss_catalog.proofs.InTurn.{none_or_some}
use Rattle.ss_catalog.proofs.Texts.{some_same}

module _ (catalog : Catalog) (q : ℕ) (text : List ℕ) where
  -- the text of a body reads as its value
  reads_as : (b : Body) (h : IsBodyOf catalog q text b) → read text ≡ Some h.0.0
  reads_as b h = subst (λ (t : List ℕ). read t ≡ Some h.0.0) h.1 h.0.1.reads_back

  -- a text that isn't JSON is of no body
  pub none_of_no_value : (IsUtf8 text → read text ≡ None) → IsBodyIfAny catalog q text None
  none_of_no_value none b h = none_or_some (read text) h.0.0 (none (subst IsUtf8 h.1 h.0.1.utf8)) (reads_as b h)

  module _ (d : Data) (json : read text ≡ Some d) where
    -- what it is the body of is its value
    of_value : (b : Body) → IsBodyOf catalog q text b → BodyReads catalog q d b
    of_value b h = subst (λ (x : Data). BodyReads catalog q x b) (some_same (read text) h.0.0 d (reads_as b h) json) h.0.1

    -- nor is one whose value is refused
    pub none_of_refused : IsBodyOrRefused → (e : CatalogError) → is_no_memory e ≡ false → RefusesBody catalog q d e → IsBodyIfAny catalog q text None
    none_of_refused either e other refusal b h =
        both_ways true (sym (ap is_no_memory (either catalog q d b e (of_value b h) refusal)) ∙ other) refl

    -- or is another's text
    none_of_another : HasOneBody → (c : Body) → BodyReads catalog q d c → (c.text ≡ text → ⊥) → IsBodyIfAny catalog q text None
    none_of_another one c reads apart b h = apart (ap (λ (x : Body). x.text) (one catalog q d c b reads (of_value b h)) ∙ h.1)

    -- of what its value reads as it is the text, or of none
    pub told : HasOneBody → (c : Body) → BodyReads catalog q d c → IsBodyIfAny catalog q text (cond (bytes_eq c.text text) (Some c) None)
    told one c reads = by (bytes_eq c.text text) refl
      where
        by : (t : Bool) → bytes_eq c.text text ≡ t → IsBodyIfAny catalog q text (cond t (Some c) None)
        by true e = ((d, reads), (bytes_eq-Decides c.text text).0 e)
        by false e = none_of_another one c reads (λ same. both_ways (bytes_eq c.text text) e ((bytes_eq-Decides c.text text).1 same))

-- what may be there may stand
pub some_may : (catalog : Catalog) (q : ℕ) (c : Body) → MayHave catalog q c.steps → (t : Bool) → IfSome (cond t (Some c) None) (λ (b : Body). MayHave catalog q b.steps)
some_may catalog q c may true = may
some_may catalog q c may false = tt
