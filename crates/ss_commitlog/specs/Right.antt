-- When an entry may join the list.
use Rattle.std.specs.Prelude.{◌≡◌, ◌<◌, ℕ, List, length, slice_get, Some}
use Rattle.std.specs.List.{AllByRecursion}
use Rattle.ss_model.specs.declared.catalog.Catalog.{Catalog}
use Rattle.ss_model.specs.declared.catalog.Procedure.{Procedure}
use Rattle.ss_model.specs.declared.entry.Entry.{Entry}
use Rattle.ss_model.specs.declared.entry.Entry.TheVariants.{Step as StepEntry}
use Rattle.ss_model.specs.declared.entry.Listed.{Listed}
use Rattle.ss_model.specs.declared.entry.Emitted.{Emitted}
use Rattle.ss_model.specs.Batches.{emitted_batches}
use Rattle.ss_model.specs.Database.{Database, Applied, apply, stream_batches}
use Rattle.ss_model.specs.Replays.{after}
use Rattle.ss_model.specs.Partitions.{part}
use Rattle.ss_model.specs.parts.Locality.{SameInputs}
use Rattle.ss_commitlog.specs.declared.role.Role.TheVariants.{Part}
use Rattle.ss_commitlog.specs.Roles.{In}
use Rattle.ss_commitlog.specs.Meaning.{listed_of}
use Rattle.ss_commitlog.specs.Tokens.{Known}

-- the database of the list that a token knows
abbrev pub known_database : Catalog → Database → Known → Database
known_database catalog db k = after catalog db (listed_of k.list)

-- the part of each partition's mark is as the mark's own list leaves it
abbrev pub AgreesWith : Catalog → ℕ → Database → List Known → Database → Type 0
AgreesWith catalog parts db ks d = (p : ℕ) (k : Known) → In k ks → k.role ≡ Part p → part catalog parts p d ≡ part catalog parts p (known_database catalog db k)

-- the batches that a step takes stand in the database
abbrev pub HasInputs : Catalog → Entry → Database → Type 0
HasInputs catalog (StepEntry q r) d = (p : Procedure) → slice_get catalog.procedures q ≡ Some p → AllByRecursion (λ s. r < length (stream_batches d s)) p.inputs
HasInputs catalog _ d = Unit {0}

-- a step's batches are those of a database that one of the marks knows
abbrev pub IsKnownTo : Catalog → Database → List Known → Entry → Database → Type 0
IsKnownTo catalog db ks (StepEntry q r) d = (k : Known) × In k ks × (d ≡ known_database catalog db k)
IsKnownTo catalog db ks _ d = Unit {0}

-- the model's outcome and batches
abbrev pub Gives : Catalog → Database → Listed → List Emitted → Type 0
Gives catalog d l emitted = (a : Applied) × (apply catalog d l.entry ≡ Some a) × (a.outcome ≡ l.outcome) × (emitted ≡ emitted_batches catalog l.entry a)

-- outcome and batches are the model's on every database that agrees with the marks and has the same batches for the step
pub record IsRight (catalog : Catalog) (parts : ℕ) (db : Database) (ks : List Known) (l : Listed) (emitted : List Emitted) : Type 0 where
  pub source : Database
  pub known : IsKnownTo catalog db ks l.entry source
  pub inputs : HasInputs catalog l.entry source
  -- there is such an answer at all, on some database
  pub witness : Database
  pub given : Gives catalog witness l emitted
  pub gives : (d : Database) → AgreesWith catalog parts db ks d → SameInputs catalog l.entry d source → Gives catalog d l emitted
