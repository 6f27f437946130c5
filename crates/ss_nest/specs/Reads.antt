-- Which catalogue with nests a JSON value reads as, or its first refusal.
use Rattle.std.specs.Prelude.{◌≡◌, ◌++◌, ℕ, List, [], Option, Some, None, Ok, Err, codes}
use Rattle.std.specs.Option.{option_map}
use Rattle.serde_json.specs.Data.{Data}
use Rattle.serde_json.specs.Read.{read}
use Rattle.serde_json.specs.Written.{compact_text}
use Rattle.ss_model.specs.declared.catalog.Catalog.{Catalog}
use Rattle.ss_model.specs.declared.catalog.Nest.{Nest}
use Rattle.ss_model.specs.Nests.{nested_catalog}
use Rattle.ss_model.specs.SparesAside.{with_spares}
use Rattle.ss_catalog.specs.declared.error.CatalogError.{CatalogError}
use Rattle.ss_catalog.specs.declared.error.CatalogError.TheVariants as fault
use Rattle.ss_catalog.specs.Reads.{Reads, Refuses}
use Rattle.ss_nest.specs.declared.error.NestError.{NestError}
use Rattle.ss_nest.specs.declared.error.NestError.TheVariants.{NoMemory, Catalog as PlainError, Shape, Unknown, Twice, NotClosed, Touch, Window}
use Rattle.ss_nest.specs.declared.outline.NestOutline.{NestOutline}
use Rattle.ss_nest.specs.Outlines.{plain_value, read_nests}
use Rattle.ss_nest.specs.Members.{nests_of, twice_in}
use Rattle.ss_nest.specs.Joinable.{open_nest, nest_of_two_touches, nest_with_batches}

-- ---- the checks, each over all nests, and each where those before it refuse nothing

-- without its nests the value reads as this catalogue
abbrev pub IsReadPlain : Data → Catalog → Type 0
IsReadPlain d c = Reads (plain_value d) c

-- and the section of nests has its shape
abbrev pub IsNestShaped : Data → Catalog → List NestOutline → Type 0
IsNestShaped d c os = IsReadPlain d c × (read_nests d ≡ Ok os)

-- each name is that of a border or an interior procedure
abbrev pub HasKnownMembers : Data → Catalog → List Nest → Type 0
HasKnownMembers d c nests = (os : List NestOutline) × IsNestShaped d c os × (nests_of c os ≡ Ok nests)

-- nothing is there twice
abbrev pub HasDistinctMembers : Data → Catalog → List Nest → Type 0
HasDistinctMembers d c nests = HasKnownMembers d c nests × (twice_in c nests ≡ None)

-- each nest is closed
abbrev pub HasClosedNests : Data → Catalog → List Nest → Type 0
HasClosedNests d c nests = HasDistinctMembers d c nests × (open_nest c nests ≡ None)

-- each has one touch set
abbrev pub HasTouchingNests : Data → Catalog → List Nest → Type 0
HasTouchingNests d c nests = HasClosedNests d c nests × (nest_of_two_touches c nests ≡ None)

-- none has a window of batches
abbrev pub HasRightNests : Data → Catalog → List Nest → Type 0
HasRightNests d c nests = HasTouchingNests d c nests × (nest_with_batches c nests ≡ None)

-- ---- what is read

-- a value reads as this catalogue: without its nests as the plain one, of which these are nests that pass all checks; the catalogue is the
-- plain one with the nests joined, and with the value's compact text, which reads as the value
pub record ReadsNested (d : Data) (catalog : Catalog) : Type 0 where
  pub plain : Catalog
  pub nests : List Nest
  pub passes : HasRightNests d plain nests
  pub joined : catalog ≡ nested_catalog plain nests (compact_text d)
  pub reads_back : read catalog.text ≡ Some d

-- this value reads as the catalogue, bodies to be installed aside
abbrev pub IsNestedFrom : Catalog → Data → Type 0
IsNestedFrom catalog d = ReadsNested d (with_spares catalog [])

-- some value does
abbrev pub WasNested : Catalog → Type 0
WasNested catalog = (d : Data) × IsNestedFrom catalog d

-- ---- the refusals

-- the first refusal of the value without its nests
abbrev pub RefusesPlain : Data → CatalogError → Type 0
RefusesPlain d e = Refuses (plain_value d) e × (e ≡ fault.NoMemory → ⊥)

-- the path to the first fault in the section of nests
abbrev pub IsMisnested : Data → List ℕ → Type 0
IsMisnested d path = (c : Catalog) × (way : List ℕ) × IsReadPlain d c × (read_nests d ≡ Err way) × (path ≡ codes "$" ++ way)

-- the first name that is no border or interior procedure's
abbrev pub HasUnknownMember : Data → List ℕ → Type 0
HasUnknownMember d name = (c : Catalog) × (os : List NestOutline) × IsNestShaped d c os × (nests_of c os ≡ Err name)

-- the first name that is there twice
abbrev pub HasMemberTwice : Data → List ℕ → Type 0
HasMemberTwice d name = (c : Catalog) × (nests : List Nest) × HasKnownMembers d c nests × (twice_in c nests ≡ Some name)

-- the name of the first nest that is open, touches in two ways, or has a window of batches
abbrev pub name_of : Option Nest → Option (List ℕ)
name_of = option_map (λ (nest : Nest). nest.name)

abbrev pub HasOpenNest : Data → List ℕ → Type 0
HasOpenNest d name = (c : Catalog) × (nests : List Nest) × HasDistinctMembers d c nests × (name_of (open_nest c nests) ≡ Some name)

abbrev pub HasTwoTouches : Data → List ℕ → Type 0
HasTwoTouches d name = (c : Catalog) × (nests : List Nest) × HasClosedNests d c nests × (name_of (nest_of_two_touches c nests) ≡ Some name)

abbrev pub HasBatchWindow : Data → List ℕ → Type 0
HasBatchWindow d name = (c : Catalog) × (nests : List Nest) × HasTouchingNests d c nests × (name_of (nest_with_batches c nests) ≡ Some name)

-- the error is the first refusal of a value, or `NoMemory`, which may always come
abbrev pub RefusesNested : Data → NestError → Type 0
RefusesNested d NoMemory = Unit {0}
RefusesNested d (PlainError e) = RefusesPlain d e
RefusesNested d (Shape path) = IsMisnested d path
RefusesNested d (Unknown name) = HasUnknownMember d name
RefusesNested d (Twice name) = HasMemberTwice d name
RefusesNested d (NotClosed name) = HasOpenNest d name
RefusesNested d (Touch name) = HasTwoTouches d name
RefusesNested d (Window name) = HasBatchWindow d name
