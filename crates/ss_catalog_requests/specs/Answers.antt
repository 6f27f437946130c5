-- What a JSON value asks of a catalogue as a request, or its refusals.
use Rattle.std.specs.Prelude.{◌≡◌, ◌⊎◌, ◌↔◌, ◌≤◌, ◌<◌, ℕ, List, length, Bool, true, false, Ok, Err, Some, codes}
use Rattle.serde_json.specs.Data.{Data}
use Rattle.serde_json.specs.Find.{get}
use Rattle.ss_model.specs.declared.catalog.Body.{Body}
use Rattle.ss_model.specs.declared.catalog.Catalog.{Catalog}
use Rattle.ss_model.specs.declared.entry.Asked.{Asked}
use Rattle.ss_model.specs.declared.entry.Asked.TheVariants.{Install}
use Rattle.ss_model.specs.declared.entry.Request.{Request}
use Rattle.ss_model.specs.SparesAside.{with_spares}
use Rattle.ss_catalog.specs.declared.error.CatalogError.{CatalogError}
use Rattle.ss_catalog.specs.declared.error.CatalogError.TheVariants as fault
use Rattle.ss_catalog.specs.Bodies.{with_added}
use Rattle.ss_nest.specs.Bodies.{NestedBodyReads, IsNestedBodyOf, RefusesNestedBody}
use Rattle.ss_catalog_requests.specs.declared.request.Said.{Said}
use Rattle.ss_catalog_requests.specs.declared.request.Said.TheVariants.{Whole, Body as SaidBody}
use Rattle.ss_catalog_requests.specs.declared.request.SaidRequest.{SaidRequest}
use Rattle.ss_catalog_requests.specs.declared.request.RequestError.{RequestError}
use Rattle.ss_catalog_requests.specs.declared.request.RequestError.TheVariants.{NoMemory, Shape, BadBody}
use Rattle.ss_catalog_requests.specs.Requests.{said_of}

-- ---- bodies

-- the value at `body` reads as this body of procedure q
abbrev pub BodyAt : Catalog → ℕ → Data → Body → Type 0
BodyAt catalog q d b = (body : Data) × (get (codes "body") d ≡ Some body) × NestedBodyReads catalog q body b

-- the value at `body` is refused as a body of procedure q, for this fault
abbrev pub BodyFaultAt : Catalog → ℕ → Data → CatalogError → Type 0
BodyFaultAt catalog q d e = (body : Data) × (get (codes "body") d ≡ Some body) × RefusesNestedBody catalog q body e × (e ≡ fault.NoMemory → ⊥)

-- the value at `body` reads as a body of procedure q, the text of which is too long
abbrev pub HasLongBody : Catalog → ℕ → Data → Type 0
HasLongBody catalog q d = (b : Body) × BodyAt catalog q d b × (1048576 < length b.text)

-- ---- what is asked for

-- what a request asks for that says this: an install asks for the text of the body that the value at `body` reads as
abbrev pub AsksFor : Catalog → Data → Said → Asked → Type 0
AsksFor catalog d (Whole asked) what = what ≡ asked
AsksFor catalog d (SaidBody q) what = (b : Body) × BodyAt catalog q d b × (length b.text ≤ 1048576) × (what ≡ Install q b.text)

-- whether an install is asked for
abbrev pub is_install : Asked → Bool
is_install (Install q text) = true
is_install what = false

-- a value on this line asks a catalogue for this
abbrev pub Asks : Catalog → ℕ → Data → Request → Type 0
Asks catalog line d r =
    (said : SaidRequest) × (said_of catalog line d ≡ Ok said) × (r.line ≡ line) × (r.client ≡ said.client) × AsksFor catalog d said.what r.what

-- where an install is asked for the catalogue became the old one with the body of its text added, and else it stayed
abbrev pub AddsAsked : Catalog → Catalog → Asked → Type 0
AddsAsked old new (Install q text) = (b : Body) × IsNestedBodyOf old q text b × (new ≡ with_added old q b)
AddsAsked old new what = new ≡ old

-- ---- the refusals

-- a value on this line says that the body at `body` be installed for procedure q
abbrev pub Installs : Catalog → ℕ → Data → ℕ → Type 0
Installs catalog line d q = (client : ℕ) × (said_of catalog line d ≡ Ok (record { client = client; what = SaidBody q }))

-- the error is the refusal of the body at `body` for procedure q, or `NoMemory`, which may always come: C15, and then C11 for its length
abbrev pub RefusesInstall : Catalog → ℕ → Data → ℕ → RequestError → Type 0
RefusesInstall catalog line d q NoMemory = Unit {0}
RefusesInstall catalog line d q (BadBody at e) = (at ≡ line) × BodyFaultAt catalog q d e
RefusesInstall catalog line d q (Shape at) = (at ≡ line) × HasLongBody catalog q d
RefusesInstall catalog line d q e = ⊥

-- the error is the first refusal of a value on this line, or `NoMemory`, which may always come: that of what it says, and else that of
-- the body to be installed
abbrev pub RefusesRequest : Catalog → ℕ → Data → RequestError → Type 0
RefusesRequest catalog line d NoMemory = Unit {0}
RefusesRequest catalog line d e = (said_of catalog line d ≡ Err e) ⊎ ((q : ℕ) × Installs catalog line d q × RefusesInstall catalog line d q e)

-- ---- laws

-- law: a value asks for one request at most
abbrev pub HasOneRequest : Type 0
HasOneRequest = (catalog : Catalog) (line : ℕ) (d : Data) (r s : Request) → Asks catalog line d r → Asks catalog line d s → r ≡ s

-- law: one that asks for a request has no refusal but `NoMemory`
abbrev pub IsAskedOrRefused : Type 0
IsAskedOrRefused =
    (catalog : Catalog) (line : ℕ) (d : Data) (r : Request) (e : RequestError) → Asks catalog line d r → RefusesRequest catalog line d e → e ≡ NoMemory

-- law: two refusals that are not `NoMemory` are the same
abbrev pub HasOneRequestRefusal : Type 0
HasOneRequestRefusal =
    (catalog : Catalog) (line : ℕ) (d : Data) (e f : RequestError) → RefusesRequest catalog line d e → RefusesRequest catalog line d f
    → (e ≡ NoMemory → ⊥) → (f ≡ NoMemory → ⊥) → e ≡ f

-- law: which bodies may be installed already makes no difference to what is asked for
abbrev pub AsksWithoutSpares : Type 0
AsksWithoutSpares =
    (catalog : Catalog) (spares : List (List Body)) (line : ℕ) (d : Data) (r : Request) → Asks (with_spares catalog spares) line d r ↔ Asks catalog line d r

-- law: nor does it to the refusals
abbrev pub RefusesWithoutSpares : Type 0
RefusesWithoutSpares =
    (catalog : Catalog) (spares : List (List Body)) (line : ℕ) (d : Data) (e : RequestError) →
    RefusesRequest (with_spares catalog spares) line d e ↔ RefusesRequest catalog line d e
