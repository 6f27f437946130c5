-- The first byte that can't be in the catalogue's text, with which an image begins.
use Rattle.std.specs.Prelude.{◌≡◌, ◌-◌, ℕ, List, length}
use Rattle.ss_value.specs.declared.text.ValueError.{ValueError}
use Rattle.ss_value.specs.declared.text.ValueError.TheVariants as value
use Rattle.ss_model.specs.declared.catalog.Catalog.{Catalog}
use Rattle.ss_nest.specs.declared.error.NestError.{NestError}
use Rattle.ss_nest.specs.declared.error.NestError.TheVariants as nested
use Rattle.ss_snapshot.specs.declared.error.ImageError.{ImageError}
use Rattle.ss_snapshot.specs.declared.error.ImageError.TheVariants.{NoMemory, Foreign}
use Rattle.ss_snapshot.specs.declared.reading.fields.PartError.{PartError}
use Rattle.ss_snapshot.specs.declared.reading.fields.PartError.TheVariants as part
use Rattle.ss_standing.specs.Image.{BeginsWithText}
use Rattle.ss_snapshot.specs.Own.{IsReadFromItsText}

-- no whole text stands at the front: the bytes end inside it, or inside its length, and are told at their end
pub record EndsInText (bytes : List ℕ) (at : ℕ) : Type 0 where
  pub cut : (text : List ℕ) → BeginsWithText bytes text → ⊥
  pub offset : at ≡ length bytes

-- no catalogue is read from the text
abbrev pub IsNoCatalog : List ℕ → Type 0
IsNoCatalog text = (catalog : Catalog) → IsReadFromItsText catalog → catalog.text ≡ text → ⊥

-- the text is no catalogue's, and is told at its first byte, which is behind the four of its length
pub record HasForeignText (bytes : List ℕ) (at : ℕ) : Type 0 where
  pub text : List ℕ
  pub begins : BeginsWithText bytes text
  pub foreign : IsNoCatalog text
  pub offset : at ≡ 4

-- ---- a refusal, by what it is of

-- of bytes that are too few for their text
abbrev pub RefusesCut : List ℕ → ImageError → Type 0
RefusesCut bytes NoMemory = Unit {0}
RefusesCut bytes (Foreign at) = EndsInText bytes at

-- why they don't begin with a length
abbrev pub length_refusal : List ℕ → ValueError → ImageError
length_refusal bytes value.NoMemory = NoMemory
length_refusal bytes _ = Foreign (length bytes)

-- of the text
abbrev pub RefusesText : List ℕ → ImageError → Type 0
RefusesText text NoMemory = Unit {0}
RefusesText text (Foreign at) = IsNoCatalog text × (at ≡ 4)

-- why its value is no catalogue
abbrev pub text_refusal : NestError → ImageError
text_refusal nested.NoMemory = NoMemory
text_refusal _ = Foreign 4

-- of what is behind the text, of which so many bytes are left from the first that can't be
abbrev pub rest_refusal : List ℕ → PartError → ImageError
rest_refusal bytes part.NoMemory = NoMemory
rest_refusal bytes (part.Foreign left) = Foreign (length bytes - left)
