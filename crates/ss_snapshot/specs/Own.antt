-- Which catalogues are what their own texts are read as.
use Rattle.std.specs.Prelude.{◌≡◌, ℕ, [], IsUtf8}
use Rattle.std.specs.List.{AllByRecursion}
use Rattle.serde_json.specs.Data.{Data}
use Rattle.ss_model.specs.declared.catalog.Body.{Body}
use Rattle.ss_model.specs.declared.catalog.Catalog.{Catalog}
use Rattle.ss_model.specs.Database.{spare_bodies}
use Rattle.ss_model.specs.SparesAside.{with_spares}
use Rattle.ss_nest.specs.Bodies.{IsNestedBodyOf}
use Rattle.ss_nest.specs.Reads.{IsNestedFrom}

-- each body to be installed is the one of its text
abbrev pub HasReadSpares : Catalog → Type 0
HasReadSpares catalog = (q : ℕ) → AllByRecursion (λ (b : Body). IsNestedBodyOf catalog q b.text b) (spare_bodies catalog q)

-- the catalogue, bodies to be installed aside, is what its own text is read as: this is UTF-8 and JSON, and the compact text of the value
-- that it spells; and each of those bodies is one of its text
pub record IsReadFromItsText (catalog : Catalog) : Type 0 where
  pub utf8 : IsUtf8 catalog.text
  pub value : Data
  pub reads : IsNestedFrom catalog value
  pub spares : HasReadSpares catalog

-- two catalogues are the same, bodies to be installed aside
abbrev pub SameButSpares : Catalog → Catalog → Type 0
SameButSpares a b = with_spares a [] ≡ with_spares b []
