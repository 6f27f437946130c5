-- A body is one of a catalogue with nests where it is one of the catalogue without them, which is read again.
use Rattle.std.proofs.Common.{◌≡◌, ◌∙◌, ℕ, List, [], Option, Some, None, sym, ap, subst, inr}
use Rattle.std.specs.Prelude.{IfSome, IfErr, Result, Ok, Err}
use Rattle.serde_json.specs.Data.{Data}
use Rattle.serde_json.specs.Find.{get}
use Rattle.serde_json.specs.Read.{read}
use Rattle.serde_json.specs.Written.{compact_text}
use Rattle.ss_model.specs.declared.catalog.Body.{Body}
use Rattle.ss_model.specs.declared.catalog.Catalog.{Catalog}
use Rattle.ss_model.specs.declared.catalog.Nest.{Nest}
use Rattle.ss_model.specs.Nests.{nested_catalog}
use Rattle.ss_model.specs.SparesAside.{with_spares}
use Rattle.ss_catalog.specs.declared.error.CatalogError.{CatalogError}
use Rattle.ss_catalog.specs.Answers.{HasOneCatalog}
use Rattle.ss_catalog.specs.Bodies.{BodyReads, IsBodyIfAny, MayHave, RefusesBody, WasRead}
use Rattle.ss_catalog.specs.Checks.{procedure_name}
use Rattle.ss_catalog.specs.Reads.{Reads}
use Rattle.ss_nest.specs.Outlines.{nests_key, plain_value}
use Rattle.ss_nest.specs.Reads.{IsNestedFrom, WasNested}
use Rattle.ss_nest.specs.Bodies.{IsPlainOf, IsPlainOne, number_named, NestedBodyReads, RefusesNestedBody, IsNestedBodyIfAny, NestedBodiesMayStand}
use Rattle.ss_nest.proofs.Alone.{no_nests_in, same_value}
use Rattle.ss_nest.proofs.Joining.{plain_unspared}
use Rattle.ss_nest.proofs.NoNests.{nested_none}
use Rattle.ss_nest.proofs.OneAnswer.{known_of, none_or_some, option_same}
use Rattle.ss_nest.proofs.OneBody.{plain_reads}

-- what holds of each error that is told
pub if_err : {A E : Type 0} (P Q : E → Type 0) → ((e : E) → P e → Q e) → (r : Result A E) → IfErr r P → IfErr r Q
if_err P Q so (Ok a) h = tt
if_err P Q so (Err e) h = so e h

-- ---- the catalogue without nests, read again

module _ (catalog : Catalog) (v : Data) (json : read catalog.text ≡ Some v) where
  -- the text is that of the value that it was read from
  value_is : (d : Data) → IsNestedFrom catalog d → d ≡ v
  value_is d from = option_same (read catalog.text) d v from.reads_back json

  -- where the value has no nests, the catalogue is its own
  pub plain_itself : get nests_key v ≡ None → IsPlainOf catalog catalog
  plain_itself missing d from =
      let absent : get nests_key d ≡ None = ap (get nests_key) (value_is d from) ∙ missing in
      let plain = from.plain in
      let none : from.nests ≡ [] = no_nests_in d absent plain from.nests (known_of d plain from.nests from.passes) in
      let text : plain.text ≡ compact_text d = (plain_reads catalog d from).text ∙ ap compact_text (same_value d absent) in
      let same : with_spares catalog [] ≡ record plain { text = compact_text d } =
      from.joined ∙ ap (λ (ns : List Nest). nested_catalog plain ns (compact_text d)) none ∙ nested_none plain (compact_text d) in
      (λ i. record plain { text = text i }) ∙ sym same

  -- otherwise it is what the value without them reads as
  pub plain_read : HasOneCatalog → (plain : Catalog) → Reads (plain_value v) plain → IsPlainOf catalog plain
  plain_read one plain reads d from =
      let mine = subst (λ (x : Data). Reads (plain_value x) from.plain) (value_is d from) (plain_reads catalog d from) in
      one (plain_value v) from.plain plain mine reads ∙ (λ i. with_spares plain (plain_unspared v plain reads i))

-- ---- bodies of it

-- bodies to be installed make no difference
aside : (plain : Catalog) (n : ℕ) (body : Data) (b : Body) → BodyReads plain n body b → BodyReads (with_spares plain []) n body b
aside plain n body b h = record {
  whole = h.whole;
  is_read_from = h.is_read_from;
  outline = h.outline;
  changed = h.changed;
  passes = h.passes;
  limits = h.limits;
  steps = h.steps;
  text = h.text;
  utf8 = h.utf8;
  reads_back = h.reads_back;
}

beside : (plain : Catalog) (n : ℕ) (body : Data) (b : Body) → BodyReads (with_spares plain []) n body b → BodyReads plain n body b
beside plain n body b h = record {
  whole = h.whole;
  is_read_from = h.is_read_from;
  outline = h.outline;
  changed = h.changed;
  passes = h.passes;
  limits = h.limits;
  steps = h.steps;
  text = h.text;
  utf8 = h.utf8;
  reads_back = h.reads_back;
}

module _ (catalog plain : Catalog) (is : IsPlainOf catalog plain) where
  pub plain_was_read : WasNested catalog → WasRead plain
  plain_was_read was = (plain_value was.0, subst (Reads (plain_value was.0)) (is was.0 was.1) (plain_reads catalog was.0 was.1))

  module _ (q n : ℕ) (named : number_named plain (procedure_name catalog q) ≡ Some n) where
    -- it is the procedure of the name there
    number_in : (d : Data) (from : IsNestedFrom catalog d) → IsPlainOne catalog q from.plain n
    number_in d from = subst (λ (c : Catalog). IsPlainOne catalog q c n) (sym (is d from)) named

    -- a body that is read there is one here
    pub reads_here : WasNested catalog → (body : Data) (b : Body) → BodyReads plain n body b → NestedBodyReads catalog q body b
    reads_here was body b h = record {
      whole = was.0;
      is_from = was.1;
      number = n;
      is_plain_one = number_in was.0 was.1;
      reads = subst (λ (c : Catalog). BodyReads c n body b) (sym (is was.0 was.1)) (aside plain n body b h);
    }

    -- one that is refused there is refused here
    pub refuses_here : WasNested catalog → (body : Data) (e : CatalogError) → RefusesBody plain n body e → RefusesNestedBody catalog q body e
    refuses_here was body e h = inr (was.0, was.1, n, number_in was.0 was.1, subst (λ (c : Catalog). RefusesBody c n body e) (sym (is was.0 was.1)) h)

    -- and one that is one here is read there
    reads_there : (body : Data) (b : Body) → NestedBodyReads catalog q body b → BodyReads plain n body b
    reads_there body b h =
        let same : h.number ≡ n = option_same (number_named h.is_from.plain (procedure_name catalog q)) h.number n h.is_plain_one (number_in h.whole h.is_from) in
        let there = subst (λ (c : Catalog). BodyReads c h.number body b) (is h.whole h.is_from) h.reads in
        beside plain n body b (subst (λ (m : ℕ). BodyReads (with_spares plain []) m body b) same there)

    -- so a text is of the same body, or of none
    pub text_here : WasNested catalog → (text : List ℕ) (found : Option Body) → IsBodyIfAny plain n text found → IsNestedBodyIfAny catalog q text found
    text_here was text (Some b) h = ((h.0.0, reads_here was h.0.0 b h.0.1), h.1)
    text_here was text None h = λ b k. h b ((k.0.0, reads_there k.0.0 b k.0.1), k.1)

  -- of a nest no text is
  pub no_text_here : (q : ℕ) (text : List ℕ) → number_named plain (procedure_name catalog q) ≡ None → IsNestedBodyIfAny catalog q text None
  no_text_here q text none = λ b k.
      let h = k.0.1 in
      let name = procedure_name catalog q in
      none_or_some (number_named h.is_from.plain name) h.number (subst (λ (c : Catalog). number_named c name ≡ None) (sym (is h.whole h.is_from)) none) h.is_plain_one

-- the body of a text may stand
pub may_if_any : NestedBodiesMayStand → (catalog : Catalog) (q : ℕ) (text : List ℕ) (found : Option Body) → IsNestedBodyIfAny catalog q text found
    → IfSome found (λ (b : Body). MayHave catalog q b.steps)
may_if_any law catalog q text (Some b) h = law catalog q h.0.0 b h.0.1
may_if_any law catalog q text None h = tt
