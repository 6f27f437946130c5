-- A value reads as one body of a procedure of a catalogue with nests, or has one refusal, out of memory aside.
use Rattle.std.proofs.Common.{◌≡◌, ℕ, Some, subst, inl, inr}
use Rattle.serde_json.specs.Data.{Data}
use Rattle.serde_json.specs.Read.{read}
use Rattle.ss_model.specs.declared.catalog.Body.{Body}
use Rattle.ss_model.specs.declared.catalog.Catalog.{Catalog}
use Rattle.ss_catalog.specs.declared.error.CatalogError.{CatalogError}
use Rattle.ss_catalog.specs.declared.error.CatalogError.TheVariants.{NoMemory}
use Rattle.ss_catalog.specs.Answers.{HasOneCatalog}
use Rattle.ss_catalog.specs.Bodies.{BodyReads, RefusesBody, HasOneBody, IsBodyOrRefused, HasOneBodyRefusal}
use Rattle.ss_catalog.specs.Checks.{procedure_name}
use Rattle.ss_catalog.specs.Reads.{Reads}
use Rattle.ss_nest.specs.Outlines.{plain_value}
use Rattle.ss_nest.specs.Reads.{IsNestedFrom}
use Rattle.ss_nest.specs.Bodies.{IsPlainOne, number_named, NestedBodyReads, RefusesNestedBody, HasOneNestedBody, IsNestedBodyOrRefused, HasOneNestedBodyRefusal}
use Rattle.ss_nest.proofs.OneAnswer.{option_same, plain_of, known_of}

-- the plain catalogue is read from the rest of the value
pub plain_reads : (catalog : Catalog) (d : Data) (from : IsNestedFrom catalog d) → Reads (plain_value d) from.plain
plain_reads catalog d from = plain_of d from.plain from.nests (known_of d from.plain from.nests from.passes)

-- a catalogue was read from one value
pub one_whole : (catalog : Catalog) (d e : Data) → IsNestedFrom catalog d → IsNestedFrom catalog e → d ≡ e
one_whole catalog d e h k = option_same (read catalog.text) d e h.reads_back k.reads_back

module _ (one : HasOneCatalog) (catalog : Catalog) (q : ℕ) where
  -- so there is one plain catalogue
  pub one_plain : (d e : Data) (h : IsNestedFrom catalog d) (k : IsNestedFrom catalog e) → h.plain ≡ k.plain
  one_plain d e h k =
      one (plain_value e) h.plain k.plain (subst (λ (x : Data). Reads (plain_value x) h.plain) (one_whole catalog d e h k) (plain_reads catalog d h)) (plain_reads catalog e k)

  -- and one procedure of the name in it
  one_number : (a b : Catalog) (m n : ℕ) → a ≡ b → IsPlainOne catalog q a m → IsPlainOne catalog q b n → m ≡ n
  one_number a b m n same h k =
      let name = procedure_name catalog q in
      option_same (number_named b name) m n (subst (λ (c : Catalog). number_named c name ≡ Some m) same h) k

  -- what is said of a body there, said of the other
  moved_body : (P : Catalog → ℕ → Type 0) (d e : Data) (h : IsNestedFrom catalog d) (k : IsNestedFrom catalog e) (m n : ℕ)
      → IsPlainOne catalog q h.plain m → IsPlainOne catalog q k.plain n → P h.plain m → P k.plain n
  moved_body P d e h k m n here there so =
      let same = one_plain d e h k in
      subst (P k.plain) (one_number h.plain k.plain m n same here there) (subst (λ (c : Catalog). P c m) same so)

  module _ (body : Data) where
    pub same_body : HasOneBody → (b c : Body) → NestedBodyReads catalog q body b → NestedBodyReads catalog q body c → b ≡ c
    same_body law b c h k =
        law k.is_from.plain k.number body b c
        (moved_body (λ (plain : Catalog) (n : ℕ). BodyReads plain n body b) h.whole k.whole h.is_from k.is_from h.number k.number h.is_plain_one k.is_plain_one h.reads) k.reads

    pub body_or_refused : IsBodyOrRefused → (b : Body) (e : CatalogError) → NestedBodyReads catalog q body b → RefusesNestedBody catalog q body e → e ≡ NoMemory
    body_or_refused law b e h (inl is) = is
    body_or_refused law b e h (inr k) =
        law k.1.plain k.2 body b e
        (moved_body (λ (plain : Catalog) (n : ℕ). BodyReads plain n body b) h.whole k.0 h.is_from k.1 h.number k.2 h.is_plain_one k.3 h.reads) k.4

    pub same_refusal : HasOneBodyRefusal → (e f : CatalogError) → RefusesNestedBody catalog q body e → RefusesNestedBody catalog q body f
        → (e ≡ NoMemory → ⊥) → (f ≡ NoMemory → ⊥) → e ≡ f
    same_refusal law e f (inl is) k some other = absurd (some is)
    same_refusal law e f (inr h) (inl is) some other = absurd (other is)
    same_refusal law e f (inr h) (inr k) some other =
        law k.1.plain k.2 body e f
        (moved_body (λ (plain : Catalog) (n : ℕ). RefusesBody plain n body e) h.0 k.0 h.1 k.1 h.2 k.2 h.3 k.3 h.4) k.4 some other

pub one_nested_body : HasOneCatalog → HasOneBody → HasOneNestedBody
one_nested_body one law catalog q body b c h k = same_body one catalog q body law b c h k

pub nested_body_or_refused : HasOneCatalog → IsBodyOrRefused → IsNestedBodyOrRefused
nested_body_or_refused one law catalog q body b e h k = body_or_refused one catalog q body law b e h k

pub one_nested_body_refusal : HasOneCatalog → HasOneBodyRefusal → HasOneNestedBodyRefusal
one_nested_body_refusal one law catalog q body e f h k some other = same_refusal one catalog q body law e f h k some other
