-- What a value says as a body of a procedure of a catalogue with nests: what it says of the catalogue without them.
use Rattle.std.specs.Prelude.{◌≡◌, ◌⊎◌, ℕ, List, [], Option, Some, None}
use Rattle.std.specs.List.{find}
use Rattle.std.specs.Str.{bytes_eq}
use Rattle.serde_json.specs.Data.{Data}
use Rattle.ss_model.specs.declared.catalog.Body.{Body}
use Rattle.ss_model.specs.declared.catalog.Catalog.{Catalog}
use Rattle.ss_model.specs.Settling.{procedure_numbers}
use Rattle.ss_model.specs.SparesAside.{with_spares}
use Rattle.ss_catalog.specs.declared.error.CatalogError.{CatalogError}
use Rattle.ss_catalog.specs.declared.error.CatalogError.TheVariants.{NoMemory}
use Rattle.ss_catalog.specs.Bodies.{BodyReads, RefusesBody, MayHave}
use Rattle.ss_catalog.specs.Checks.{procedure_name}
use Rattle.ss_nest.specs.Reads.{IsNestedFrom}

-- the number of the first procedure of this name
abbrev pub number_named : Catalog → List ℕ → Option ℕ
number_named c name = find (λ q. bytes_eq (procedure_name c q) name) (procedure_numbers c)

-- without its nests, and but for bodies to be installed, a catalogue is this one
abbrev pub IsPlainOf : Catalog → Catalog → Type 0
IsPlainOf catalog plain = (d : Data) (from : IsNestedFrom catalog d) → from.plain ≡ with_spares plain []

-- procedure q of a catalogue with nests is this one of the catalogue without them: the one of its name; a nest is none
abbrev pub IsPlainOne : Catalog → ℕ → Catalog → ℕ → Type 0
IsPlainOne catalog q plain n = number_named plain (procedure_name catalog q) ≡ Some n

-- a value reads as this body of procedure q: it does so in the catalogue without nests
pub record NestedBodyReads (catalog : Catalog) (q : ℕ) (body : Data) (b : Body) : Type 0 where
  pub whole : Data
  pub is_from : IsNestedFrom catalog whole
  pub number : ℕ
  pub is_plain_one : IsPlainOne catalog q is_from.plain number
  pub reads : BodyReads is_from.plain number body b

-- the error is the first refusal of the catalogue without nests with this body in place, or `NoMemory`, which may always come
abbrev pub RefusesNestedBody : Catalog → ℕ → Data → CatalogError → Type 0
RefusesNestedBody catalog q body e =
    (e ≡ NoMemory) ⊎ ((d : Data) × (from : IsNestedFrom catalog d) × (n : ℕ) × IsPlainOne catalog q from.plain n × RefusesBody from.plain n body e)

-- the text is the compact one of a value that reads as this body
abbrev pub IsNestedBodyOf : Catalog → ℕ → List ℕ → Body → Type 0
IsNestedBodyOf catalog q text b = ((body : Data) × NestedBodyReads catalog q body b) × (b.text ≡ text)

-- the body of a text, and none exactly where it has none
abbrev pub IsNestedBodyIfAny : Catalog → ℕ → List ℕ → Option Body → Type 0
IsNestedBodyIfAny catalog q text (Some b) = IsNestedBodyOf catalog q text b
IsNestedBodyIfAny catalog q text None = (b : Body) → IsNestedBodyOf catalog q text b → ⊥

-- ---- laws

-- law: a value reads as one body of a procedure at most
abbrev pub HasOneNestedBody : Type 0
HasOneNestedBody = (catalog : Catalog) (q : ℕ) (body : Data) (b c : Body) → NestedBodyReads catalog q body b → NestedBodyReads catalog q body c → b ≡ c

-- law: one that reads as a body has no refusal but `NoMemory`
abbrev pub IsNestedBodyOrRefused : Type 0
IsNestedBodyOrRefused =
    (catalog : Catalog) (q : ℕ) (body : Data) (b : Body) (e : CatalogError) → NestedBodyReads catalog q body b → RefusesNestedBody catalog q body e → e ≡ NoMemory

-- law: two refusals that are not `NoMemory` are the same
abbrev pub HasOneNestedBodyRefusal : Type 0
HasOneNestedBodyRefusal =
    (catalog : Catalog) (q : ℕ) (body : Data) (e f : CatalogError) → RefusesNestedBody catalog q body e → RefusesNestedBody catalog q body f
    → (e ≡ NoMemory → ⊥) → (f ≡ NoMemory → ⊥) → e ≡ f

-- law: a procedure may have each body that a value reads as
abbrev pub NestedBodiesMayStand : Type 0
NestedBodiesMayStand = (catalog : Catalog) (q : ℕ) (body : Data) (b : Body) → NestedBodyReads catalog q body b → MayHave catalog q b.steps
