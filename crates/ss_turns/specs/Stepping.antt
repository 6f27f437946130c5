-- The batches of a step, and what became of it.
use Rattle.std.specs.Prelude.{◌≡◌, ℕ, List, [], ◌∷◌, map, slice_get, Some, None, Ok, Err}
use Rattle.std.specs.declared.option.Option.{Option}
use Rattle.std.specs.declared.result.Result.{Result}
use Rattle.ss_value.specs.Rows.{Rows}
use Rattle.ss_model.specs.declared.catalog.Catalog.{Catalog}
use Rattle.ss_model.specs.declared.catalog.Procedure.{Procedure}
use Rattle.ss_model.specs.declared.entry.Entry.TheVariants.{Step as StepEntry}
use Rattle.ss_model.specs.Database.{Database, stream_batches}
use Rattle.ss_commitlog.specs.declared.placed.Placed.{Placed}
use Rattle.ss_commitlog.specs.declared.placed.Unlisted.{Unlisted}
use Rattle.ss_commitlog.specs.Growing.{GoesOn}
use Rattle.ss_commitlog.specs.Reading.{found_batch}
use Rattle.ss_commitlog.specs.Right.{known_database}
use Rattle.ss_commitlog.specs.Roles.{In}
use Rattle.ss_commitlog.specs.Tokens.{Known}
use Rattle.ss_turns.specs.Runs.{AreGiven}

-- marks, each of which goes on
abbrev pub EachGoesOn : Catalog → ℕ → List Known → List Known → Type 0
EachGoesOn catalog parts [] [] = Unit {0}
EachGoesOn catalog parts (k ∷ ks) (l ∷ ls) = GoesOn catalog parts k l × EachGoesOn catalog parts ks ls
EachGoesOn catalog parts _ _ = ⊥

-- the batches with this number of these streams, where all were found; else one of the streams has none for the consumer
abbrev pub AreFound : {E : Type 0} → Database → ℕ → ℕ → List ℕ → Result (Option (List Rows)) E → Type 0
AreFound d q r streams (Ok (Some batches)) = map (λ s. slice_get (stream_batches d s) r) streams ≡ map Some batches
AreFound d q r streams (Ok None) = (s : ℕ) × In s streams × (found_batch d s q r ≡ None)
AreFound d q r streams (Err e) = Unit {0}

-- after a list that one of the marks knows, some input of a procedure has no batch with this number for it
pub record LacksInput (catalog : Catalog) (db : Database) (ks : List Known) (q r : ℕ) : Type 0 where
  pub mark : Known
  pub one_of : In mark ks
  pub procedure : Procedure
  pub named : slice_get catalog.procedures q ≡ Some procedure
  pub stream : ℕ
  pub input : In stream procedure.inputs
  pub none : found_batch (known_database catalog db mark) stream q r ≡ None

-- those that a step takes
abbrev pub AreFoundFor : {E : Type 0} → Catalog → Database → List Known → ℕ → ℕ → Result (Option (List Rows)) E → Type 0
AreFoundFor catalog db ks q r (Ok (Some batches)) = AreGiven catalog db ks (StepEntry q r) batches
AreFoundFor catalog db ks q r (Ok None) = LacksInput catalog db ks q r
AreFoundFor catalog db ks q r (Err e) = Unit {0}

-- a step that is said not to be ready lacks an input
abbrev pub LacksWhereNotReady : Catalog → Database → List Known → ℕ → ℕ → Result (Option Placed) Unlisted → Type 0
LacksWhereNotReady catalog db ks q r (Ok (Some placed)) = Unit {0}
LacksWhereNotReady catalog db ks q r (Ok None) = LacksInput catalog db ks q r
LacksWhereNotReady catalog db ks q r (Err unlisted) = Unit {0}

-- what became of a step whose entry this is said of
abbrev pub stepped_of : Result Placed Unlisted → Result (Option Placed) Unlisted
stepped_of (Ok placed) = Ok (Some placed)
stepped_of (Err unlisted) = Err unlisted
