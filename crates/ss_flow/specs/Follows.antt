-- How the streams of a database follow an entry.
use Rattle.std.specs.Prelude.{◌≡◌, ◌<◌, ℕ, true, cond, List, [], ◌∷◌, length, Some}
use Rattle.std.specs.List.{AllByRecursion}
use Rattle.ss_value.specs.Rows.{Rows}
use Rattle.ss_model.specs.declared.catalog.Catalog.{Catalog}
use Rattle.ss_model.specs.declared.entry.Emitted.{Emitted}
use Rattle.ss_model.specs.declared.entry.Entry.{Entry}
use Rattle.ss_model.specs.declared.entry.Entry.TheVariants.{Step as StepEntry}
use Rattle.ss_model.specs.Accepted.{Accepted}
use Rattle.ss_model.specs.Batches.{batches_of, emitted_batches}
use Rattle.ss_model.specs.Database.{Database, Applied, apply}
use Rattle.ss_model.specs.Orders.{HasShape, procedure_takes}
use Rattle.ss_stream.specs.Pending.{Pending, HasNext, passed_by, with_batch}
use Rattle.ss_stream.specs.OfDatabase.{kept_stream}

-- a step's procedure, if it takes the stream, has still a batch to pass
abbrev pub MayPass : Catalog → Entry → ℕ → Pending → Type 0
MayPass catalog (StepEntry q r) s p = procedure_takes catalog q s ≡ true → HasNext p q
MayPass catalog _ s p = Unit {0}

-- the stream after a step's procedure, if it takes the stream, has passed one batch; no other entry passes any
abbrev pub passed_at : Catalog → Entry → ℕ → Pending → Pending
passed_at catalog (StepEntry q r) s p = cond (procedure_takes catalog q s) (passed_by p q) p
passed_at catalog _ s p = p

-- the stream with these batches more, one behind the other
abbrev pub with_batches : Pending → List Rows → Pending
with_batches p [] = p
with_batches p (rows ∷ more) = with_batches (with_batch p rows) more

-- what is kept of a stream after an entry: one batch is passed by the step's procedure, and the batch that travels with the entry joins
pub record StreamFollows (catalog : Catalog) (db : Database) (e : Entry) (a : Applied) (s : ℕ) : Type 0 where
  pub may_pass : MayPass catalog e s (kept_stream catalog db s)
  pub follows : kept_stream catalog a.db s ≡ with_batches (passed_at catalog e s (kept_stream catalog db s)) (batches_of s (emitted_batches catalog e a))

-- law: each stream of the catalogue follows an entry in this way
abbrev pub StreamsFollow : Type 0
StreamsFollow =
    (catalog : Catalog) (db : Database) (e : Entry) (a : Applied) → HasShape catalog db → apply catalog db e ≡ Some a →
    (s : ℕ) → s < length catalog.streams → StreamFollows catalog db e a s

-- each of these batches is for one of so many streams
abbrev pub AreOfStreams : ℕ → List Emitted → Type 0
AreOfStreams n batches = AllByRecursion (λ (b : Emitted). b.stream < n) batches

-- law: the batches that travel with an entry are for streams of the catalogue
abbrev pub BatchesHaveStreams : Type 0
BatchesHaveStreams =
    (catalog : Catalog) → Accepted catalog → (db : Database) (e : Entry) (a : Applied) → apply catalog db e ≡ Some a → AreOfStreams (length catalog.streams) (emitted_batches catalog e a)
