-- What the tests say of the shards of a database.
use Rattle.std.specs.Prelude.{ℕ, List, [], ◌∷◌}
use Rattle.ss_model.specs.declared.catalog.Catalog.{Catalog}
use Rattle.ss_model.specs.declared.entry.Entry.{Entry}
use Rattle.ss_model.specs.declared.entry.Entry.TheVariants.{Step as StepEntry}
use Rattle.ss_model.specs.Database.{Database}
use Rattle.ss_model.specs.parts.HeldParts.{HoldsTouched}
use Rattle.ss_shard.specs.ShardValue.{ShardValue}
use Rattle.ss_shard.specs.Parts.{is_among, AreShards, HoldTheirParts}

-- there is a database of which each of these shards holds its part
abbrev pub AreOfOne : Catalog → ℕ → List ShardValue → Type 0
AreOfOne catalog n shards = AreShards catalog n shards × ((db : Database) × HoldTheirParts catalog n shards db)

-- an entry takes no batch
abbrev pub TakesNone : Entry → Type 0
TakesNone (StepEntry q r) = ⊥
TakesNone _ = Unit {0}

-- it touches this partition alone, if any
abbrev pub TouchesOnly : Catalog → ℕ → Entry → ℕ → Type 0
TouchesOnly catalog n e p = HoldsTouched catalog n (is_among (p ∷ [])) e
