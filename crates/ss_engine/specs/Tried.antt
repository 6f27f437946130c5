-- The next step of a procedure, which is tried.
use Rattle.std.specs.Prelude.{◌≡◌, ℕ, true, Option, Some, None, IfSome, Result, Ok, Err, IfOk}
use Rattle.ss_model.specs.declared.catalog.Catalog.{Catalog}
use Rattle.ss_model.specs.declared.entry.Entry.TheVariants.{Step as StepEntry}
use Rattle.ss_model.specs.Database.{Database, fits_entry}
use Rattle.ss_model.specs.Partitions.{home_of}
use Rattle.ss_commitlog.specs.declared.placed.Placed.{Placed}
use Rattle.ss_commitlog.specs.declared.placed.Unlisted.{Unlisted}
use Rattle.ss_commitlog.specs.Tokens.{Known}
use Rattle.ss_engine.specs.declared.partition.pumped.Pumped.{Pumped}
use Rattle.ss_engine.specs.declared.partition.pumped.Pumped.TheVariants as pumped
use Rattle.ss_commitlog.specs.Growing.{GoesOn}
use Rattle.ss_engine.specs.Pumped.{AfterPump}

-- the procedure takes batches, and is at home on this partition
abbrev pub StepsAt : Catalog → ℕ → ℕ → ℕ → Type 0
StepsAt catalog parts p q = (home_of catalog parts q ≡ p) × (fits_entry catalog (StepEntry q 0) ≡ true)

-- what a pump says of it; nothing where some input has no batch for it
abbrev pub tried_of : Result (Option Placed) Unlisted → Option Pumped
tried_of (Ok (Some placed)) = Some (pumped.Ran placed.place)
tried_of (Ok None) = None
tried_of (Err why) = Some (pumped.Unlisted why)

-- where it ran, its entry is a step of the procedure
abbrev pub IsOfProcedure : ℕ → Result (Option Placed) Unlisted → Type 0
IsOfProcedure q stepped = IfOk stepped (λ (ran : Option Placed). IfSome ran (λ (placed : Placed). (r : ℕ) × (placed.listed.entry ≡ StepEntry q r)))

-- the lent note then knows a list that goes on from its old one; and where something is said, it is right of that list
pub record IsTried (catalog : Catalog) (parts : ℕ) (db : Database) (first limit p : ℕ) (old new : Known) (did : Option Pumped) : Type 0 where
  pub on : GoesOn catalog parts old new
  pub did_is : IfSome did (AfterPump catalog parts db first limit p old new)
