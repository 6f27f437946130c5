-- A value has one answer.
use Rattle.std.specs.Prelude.{◌≡◌}
use Rattle.serde_json.specs.Data.{Data}
use Rattle.ss_model.specs.declared.catalog.Catalog.{Catalog}
use Rattle.ss_catalog.specs.declared.error.CatalogError.{CatalogError}
use Rattle.ss_catalog.specs.declared.error.CatalogError.TheVariants.{NoMemory}
use Rattle.ss_catalog.specs.Reads.{Reads, Refuses}

-- law: a value reads as one catalogue at most
abbrev pub HasOneCatalog : Type 0
HasOneCatalog = (d : Data) (a b : Catalog) → Reads d a → Reads d b → a ≡ b

-- law: a value that reads as a catalogue has no refusal but `NoMemory`
abbrev pub IsReadOrRefused : Type 0
IsReadOrRefused = (d : Data) (c : Catalog) (e : CatalogError) → Reads d c → Refuses d e → e ≡ NoMemory

-- law: two refusals of a value that are not `NoMemory` are the same
abbrev pub HasOneRefusal : Type 0
HasOneRefusal = (d : Data) (e f : CatalogError) → Refuses d e → Refuses d f → (e ≡ NoMemory → ⊥) → (f ≡ NoMemory → ⊥) → e ≡ f
