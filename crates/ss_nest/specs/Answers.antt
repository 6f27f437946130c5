-- A value has one answer as a catalogue with nests.
use Rattle.std.specs.Prelude.{◌≡◌}
use Rattle.serde_json.specs.Data.{Data}
use Rattle.ss_model.specs.declared.catalog.Catalog.{Catalog}
use Rattle.ss_nest.specs.declared.error.NestError.{NestError}
use Rattle.ss_nest.specs.declared.error.NestError.TheVariants.{NoMemory}
use Rattle.ss_nest.specs.Reads.{ReadsNested, RefusesNested}

-- law: a value reads as one catalogue at most
abbrev pub HasOneNested : Type 0
HasOneNested = (d : Data) (a b : Catalog) → ReadsNested d a → ReadsNested d b → a ≡ b

-- law: a value that reads as a catalogue has no refusal but `NoMemory`
abbrev pub IsNestedOrRefused : Type 0
IsNestedOrRefused = (d : Data) (c : Catalog) (e : NestError) → ReadsNested d c → RefusesNested d e → e ≡ NoMemory

-- law: two refusals of a value that are not `NoMemory` are the same
abbrev pub HasOneNestedRefusal : Type 0
HasOneNestedRefusal = (d : Data) (e f : NestError) → RefusesNested d e → RefusesNested d f → (e ≡ NoMemory → ⊥) → (f ≡ NoMemory → ⊥) → e ≡ f
