-- What a value says as a body of a procedure: what the catalogue's own value would say with this body in its place.
use Rattle.std.specs.Prelude.{◌≡◌, ◌++◌, ℕ, zero, suc, cond, List, [], ◌∷◌, Bool, true, false, Err, Option, Some, None, slice_get, option_map, codes, IsUtf8}
use Rattle.std.specs.Str.{bytes_eq}
use Rattle.serde_json.specs.Data.{Data, array, object, Items, no_items, item, Members, no_members, member}
use Rattle.serde_json.specs.Read.{read}
use Rattle.serde_json.specs.Written.{compact_text}
use Rattle.ss_model.specs.declared.catalog.Body.{Body}
use Rattle.ss_model.specs.declared.catalog.Catalog.{Catalog}
use Rattle.ss_model.specs.declared.catalog.Procedure.{Procedure}
use Rattle.ss_model.specs.declared.catalog.ProcedureKind.{ProcedureKind}
use Rattle.ss_model.specs.declared.catalog.Step.{Step}
use Rattle.ss_model.specs.Database.{has_body}
use Rattle.ss_model.specs.Spares.{AcceptedBody}
use Rattle.ss_model.specs.SparesAside.{with_spares}
use Rattle.ss_catalog_outline.specs.declared.types.Outline.{Outline}
use Rattle.ss_catalog_outline.specs.Limits.{over_limit}
use Rattle.ss_catalog_outline.specs.Steps.{read_steps}
use Rattle.ss_catalog_json.specs.Readings.{key_step, item_step}
use Rattle.ss_catalog.specs.declared.error.CatalogError.{CatalogError}
use Rattle.ss_catalog.specs.declared.error.CatalogError.TheVariants.{NoMemory, Shape}
use Rattle.ss_catalog.specs.Checks.{HasRightOwners}
use Rattle.ss_catalog.specs.Reads.{Reads, Refuses}

-- ---- a value with another one in a place

-- the members, with f of the value at this key
abbrev pub at_key : List ℕ → (Data → Data) → Members → Members
at_key k f no_members = no_members
at_key k f (member l d ms) = member l (cond (bytes_eq k l) (f d) d) (at_key k f ms)

-- the items, with f of the one of this number
abbrev pub at_number : ℕ → (Data → Data) → Items → Items
at_number n f no_items = no_items
at_number zero f (item d ds) = item (f d) ds
at_number (suc n) f (item d ds) = item d (at_number n f ds)

-- the same of an object and of an array; another value stays as it is
abbrev pub in_object : List ℕ → (Data → Data) → Data → Data
in_object k f (object ms) = object (at_key k f ms)
in_object k f d = d

abbrev pub in_array : ℕ → (Data → Data) → Data → Data
in_array n f (array ds) = array (at_number n f ds)
in_array n f d = d

-- a catalogue's value with this body in place of that of procedure q
abbrev pub with_body_in : ℕ → Data → Data → Data
with_body_in q body d = in_object (codes "procedures") (in_array q (in_object (codes "body") (λ own. body))) d

-- ---- bodies

-- this value reads as the catalogue, bodies to be installed aside
abbrev pub IsReadFrom : Catalog → Data → Type 0
IsReadFrom catalog d = Reads d (with_spares catalog [])

-- some value does
abbrev pub WasRead : Catalog → Type 0
WasRead catalog = (d : Data) × IsReadFrom catalog d

-- a value reads as this body of procedure q: with it in place the catalogue's value passes all checks, and gives the procedure
-- these steps; the body's text is the value's compact text, in UTF-8, which reads as the value
pub record BodyReads (catalog : Catalog) (q : ℕ) (body : Data) (b : Body) : Type 0 where
  pub whole : Data
  pub is_read_from : IsReadFrom catalog whole
  pub outline : Outline
  pub changed : Catalog
  pub passes : HasRightOwners (with_body_in q body whole) outline changed
  pub limits : over_limit outline ≡ None
  pub steps : option_map (λ p. p.body) (slice_get changed.procedures q) ≡ Some b.steps
  pub text : b.text ≡ compact_text body
  pub utf8 : IsUtf8 b.text
  pub reads_back : read b.text ≡ Some body

-- the error is the first refusal of the catalogue's value with this body in place, or `NoMemory`, which may always come
abbrev pub RefusesBody : Catalog → ℕ → Data → CatalogError → Type 0
RefusesBody catalog q body e = (d : Data) × IsReadFrom catalog d × Refuses (with_body_in q body d) e

-- procedure q may have these steps
abbrev pub MayHave : Catalog → ℕ → List Step → Type 0
MayHave catalog q steps = (p : Procedure) → slice_get catalog.procedures q ≡ Some p → AcceptedBody catalog q p steps

-- ---- the body of a text

-- the text is the compact one of a value that reads as this body
abbrev pub IsBodyOf : Catalog → ℕ → List ℕ → Body → Type 0
IsBodyOf catalog q text b = ((body : Data) × BodyReads catalog q body b) × (b.text ≡ text)

-- the body of a text, and none exactly where it has none
abbrev pub IsBodyIfAny : Catalog → ℕ → List ℕ → Option Body → Type 0
IsBodyIfAny catalog q text (Some b) = IsBodyOf catalog q text b
IsBodyIfAny catalog q text None = (b : Body) → IsBodyOf catalog q text b → ⊥

-- whether an error is that memory is out
abbrev pub is_no_memory : CatalogError → Bool
is_no_memory NoMemory = true
is_no_memory e = false

-- ---- how a fault in the shape of a body is reported

-- the way from the catalogue's value to the fault that lies this way in the body of procedure q
abbrev pub way_in_body : ℕ → List ℕ → List ℕ
way_in_body q way = key_step (codes "procedures") ++ (item_step q ++ (key_step (codes "body") ++ way))

-- the error is the first fault in the shape of this body of procedure q, or `NoMemory`, which may always come
abbrev pub IsBodyFault : ProcedureKind → ℕ → Data → CatalogError → Type 0
IsBodyFault kind q body NoMemory = Unit {0}
IsBodyFault kind q body e = (way : List ℕ) × (read_steps kind body ≡ Err way) × (e ≡ Shape (codes "$" ++ way_in_body q way))

-- ---- bodies to be installed

-- the bodies to be installed, with one more of procedure q
abbrev pub with_spare : List (List Body) → ℕ → Body → List (List Body)
with_spare [] zero b = (b ∷ []) ∷ []
with_spare [] (suc q) b = [] ∷ with_spare [] q b
with_spare (bodies ∷ rest) zero b = (bodies ++ b ∷ []) ∷ rest
with_spare (bodies ∷ rest) (suc q) b = bodies ∷ with_spare rest q b

-- the catalogue with this body of procedure q to be installed, unless the procedure has one with its text
abbrev pub with_added : Catalog → ℕ → Body → Catalog
with_added catalog q b = cond (has_body catalog q b.text) catalog (with_spares catalog (with_spare catalog.spares q b))

-- ---- laws

-- a value reads as one body of a procedure at most
abbrev pub HasOneBody : Type 0
HasOneBody = (catalog : Catalog) (q : ℕ) (body : Data) (b c : Body) → BodyReads catalog q body b → BodyReads catalog q body c → b ≡ c

-- one that reads as a body has no refusal but `NoMemory`
abbrev pub IsBodyOrRefused : Type 0
IsBodyOrRefused =
    (catalog : Catalog) (q : ℕ) (body : Data) (b : Body) (e : CatalogError) → BodyReads catalog q body b → RefusesBody catalog q body e → e ≡ NoMemory

-- two refusals that are not `NoMemory` are the same
abbrev pub HasOneBodyRefusal : Type 0
HasOneBodyRefusal =
    (catalog : Catalog) (q : ℕ) (body : Data) (e f : CatalogError) → RefusesBody catalog q body e → RefusesBody catalog q body f
    → (e ≡ NoMemory → ⊥) → (f ≡ NoMemory → ⊥) → e ≡ f

-- a procedure may have each body that a value reads as
abbrev pub BodiesMayStand : Type 0
BodiesMayStand = (catalog : Catalog) (q : ℕ) (body : Data) (b : Body) → BodyReads catalog q body b → MayHave catalog q b.steps
