-- What an entry is given, and what it leaves on a shard.
use Rattle.std.specs.Prelude.{◌≡◌, ◌+◌, ◌^◌, ◌<◌, ℕ, List, [], map, get_or, set, slice_get, Option, Some, None}
use Rattle.ss_value.specs.Rows.{Row, Rows}
use Rattle.ss_model.specs.declared.catalog.Catalog.{Catalog}
use Rattle.ss_model.specs.declared.catalog.Procedure.{Procedure}
use Rattle.ss_model.specs.declared.entry.Emitted.{Emitted}
use Rattle.ss_model.specs.declared.entry.Entry.{Entry}
use Rattle.ss_model.specs.declared.entry.Entry.TheVariants.{Push, Step as StepEntry}
use Rattle.ss_model.specs.declared.entry.Outcome.{Outcome}
use Rattle.ss_model.specs.declared.entry.Outcome.TheVariants.{Done}
use Rattle.ss_model.specs.Database.{NextNumbers, Database, Applied, apply, stream_batches, run_procedure}
use Rattle.ss_model.specs.Batches.{emitted_batches}
use Rattle.ss_shard.specs.ShardValue.{ShardValue}
use Rattle.ss_shard.specs.Bodies.{IsBodyNumber, present_on, text_numbered, texts_of, with_coming}
use Rattle.ss_shard.specs.Contents.{contents_of}
use Rattle.ss_shard.specs.Sources.{HasSource, SameNumbers, with_number}
use Rattle.ss_shard.specs.Windows.{Holds, HoldsDatabase}
use Rattle.ss_proc.specs.declared.bodies.BodyResult.{BodyResult}
use Rattle.ss_proc.specs.declared.runner.Executed.{Executed}

-- a step's batch is the next one that its procedure takes
abbrev pub IsNext : Entry → ShardValue → Type 0
IsNext (StepEntry n r) shard = get_or shard.cursors n 0 ≡ r
IsNext _ shard = Unit {0}

-- the batch of this number of each input of a procedure
abbrev pub batches_at : Database → ℕ → Procedure → List (Option Rows)
batches_at db r p = map (λ s. slice_get (stream_batches db s) r) p.inputs

-- these are the batches of that number of a procedure, if it is there
abbrev pub AreBatchesOf : Database → ℕ → List Rows → Option Procedure → Type 0
AreBatchesOf db r batches None = Unit {0}
AreBatchesOf db r batches (Some p) = batches_at db r p ≡ map Some batches

-- the batches at hand are those that an entry takes from the streams of a database; but for a step it takes none
abbrev pub AreAtHand : Catalog → Database → Entry → List Rows → Type 0
AreAtHand catalog db (StepEntry n r) batches = AreBatchesOf db r batches (slice_get catalog.procedures n)
AreAtHand catalog db _ batches = batches ≡ []

-- the batch of each of these streams
abbrev pub batches_for : List ℕ → List Rows → List Emitted
batches_for streams emitted = map (λ s. record { stream = s; rows = get_or emitted s [] }) streams

-- the counts once an entry is committed: a step, done or aborted, has taken its batch
abbrev pub counts_after : Entry → List ℕ → List ℕ
counts_after (StepEntry n r) counts = set counts n (r + 1)
counts_after _ counts = counts

-- the next numbers once a push with this outcome is committed: an accepted one raises its source's
abbrev pub number_raised : ℕ → List ℕ → ℕ → Outcome → List NextNumbers → List NextNumbers
number_raised s source seq (Done reply) sources = with_number sources s source (seq + 1)
number_raised s source seq _ sources = sources

-- the next numbers once an entry with this outcome is committed
abbrev pub numbers_after : Entry → Outcome → List NextNumbers → List NextNumbers
numbers_after (Push client index s source seq rows) outcome sources = number_raised s source seq outcome sources
numbers_after _ outcome sources = sources

-- the source of an accepted push has an entry, and its number can be raised
abbrev pub HasSourceEntry : ℕ → List ℕ → ℕ → Outcome → List NextNumbers → Type 0
HasSourceEntry s source seq (Done reply) sources = HasSource sources s source × (seq < 2 ^ 63)
HasSourceEntry s source seq _ sources = Unit {0}

-- the same, if an entry with this outcome is such a push
abbrev pub EntryHasSource : Entry → Outcome → List NextNumbers → Type 0
EntryHasSource (Push client index s source seq rows) outcome sources = HasSourceEntry s source seq outcome sources
EntryHasSource _ outcome sources = Unit {0}

-- an entry has run on a database that the shard stood for: it has a value there, with this outcome and these batches, the shard
-- stands for the tables and windows after it, and the commit gives the counts, next numbers and bodies after it
pub record Ran (catalog : Catalog) (db : Database) (e : Entry) (executed : Executed) (shard : ShardValue) : Type 0 where
  pub applied : Applied
  pub value : apply catalog db e ≡ Some applied
  pub outcome : executed.outcome ≡ applied.outcome
  pub emitted : executed.emitted ≡ emitted_batches catalog e applied
  pub leaves : Holds catalog shard (applied.db).contents
  pub counts : counts_after e shard.cursors ≡ (applied.db).counts
  pub numbers : SameNumbers (applied.db).next_numbers (numbers_after e executed.outcome shard.sources)
  pub bodies : texts_of catalog (with_coming shard.coming shard.bodies) ≡ (applied.db).bodies

-- an entry has run on each database that the shard stood for and from which these batches were taken
abbrev pub RanOnEach : Catalog → ShardValue → ShardValue → Entry → List Rows → Executed → Type 0
RanOnEach catalog old new e batches executed = (db : Database) → HoldsDatabase catalog old db → AreAtHand catalog db e batches → Ran catalog db e executed new

-- once an entry is committed, the shard stands for what the entry leaves on each database on which it has run
abbrev pub Commits : Catalog → Entry → Outcome → ShardValue → ShardValue → Type 0
Commits catalog e outcome old new =
    (db : Database) (executed : Executed) (ran : Ran catalog db e executed old) → executed.outcome ≡ outcome → HoldsDatabase catalog new (ran.applied).db

-- the procedure of a number, with the body that it has on the shard, came to this with these arguments and batches
abbrev pub ProcedureRan : Catalog → ℕ → Row → List Rows → ShardValue → ShardValue → BodyResult → Type 0
ProcedureRan catalog n args batches old new left =
    (p : Procedure) → slice_get catalog.procedures n ≡ Some p →
    run_procedure catalog n (present_on catalog old n p) args batches (contents_of old) ≡ record { contents = contents_of new; outcome = left.outcome; emitted = left.emitted }

-- a procedure's body with this text is to come on a shard
pub record Installs (catalog : Catalog) (n : ℕ) (text : List ℕ) (old new : ShardValue) : Type 0 where
  pub number : ℕ
  pub text_is : text_numbered catalog n number ≡ text
  pub steps_are : IsBodyNumber catalog n number
  pub noted : new ≡ record old { coming = Some (n, number) }

-- the number of a step's batch is far from the end of 64 bits, so that a count can go beyond it
abbrev pub IsCountable : Entry → Type 0
IsCountable (StepEntry n r) = r < 2 ^ 60
IsCountable _ = Unit {0}
