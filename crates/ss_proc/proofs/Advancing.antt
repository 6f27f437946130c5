-- What the streams and the commit need of an entry that has run, and what looks at counts and streams finds.
use Rattle.std.proofs.Common.{◌≡◌, ◌<◌, ◌^◌, ◌∙◌, ℕ, List, length, Some, ap, arith}
use Rattle.ss_model.specs.declared.catalog.Catalog.{Catalog}
use Rattle.ss_model.specs.declared.entry.Entry.{Entry}
use Rattle.ss_model.specs.declared.entry.Entry.TheVariants.{Call, Push, Step as StepEntry, Install}
use Rattle.ss_model.specs.Database.{Database, Applied, apply, batch_count}
use Rattle.ss_model.specs.InStep.{IsInStep}
use Rattle.ss_model.specs.Orders.{HasShape}
use Rattle.ss_model.specs.WholeDatabase.{HadAtMost}
use Rattle.ss_model_laws.proofs.CallerLemmas.{steps_move}
use Rattle.ss_stream.specs.Pending.{Pending}
use Rattle.ss_stream.specs.OfDatabase.{AreStreamsOf}
use Rattle.ss_flow.specs.Advances.{Advances}
use Rattle.ss_sched.specs.Progress.{HasProgress}
use Rattle.ss_sched.proofs.CallerLemmas.{kept_many, progress}
use Rattle.ss_shard.specs.ShardValue.{ShardValue}
use Rattle.ss_shard.specs.declared.database.Database.{Database as Held}
use Rattle.ss_shard.specs.Databases.{StandsFor}
use Rattle.ss_proc.specs.declared.runner.Executed.{Executed}
use Rattle.ss_proc.specs.Entries.{IsCountable, Ran}

-- an entry that has run on a database in which few batches were had
module _ (catalog : Catalog) (db : Database) (step : IsInStep catalog db) (n : ℕ) (had : HadAtMost n db) (few : n < 2 ^ 60) where
  -- what the streams need of it
  pub advances_on : (e : Entry) (executed : Executed) (shard : ShardValue) (streams : List Pending) → (ran : Ran catalog db e executed shard) → AreStreamsOf catalog db streams → Advances catalog db e ran.applied executed.emitted streams
  advances_on e executed shard streams ran are = record {
    shape = step.matched.shape;
    applies = ran.value;
    batches_are = ran.emitted;
    streams_are = are;
    few = λ s. let many = had.streams s in omega arith;
  }

  -- and what its commit needs
  pub countable_on : (e : Entry) (a : Applied) → apply catalog db e ≡ Some a → IsCountable e
  countable_on (Call client index q args) a is = tt
  countable_on (Push client index s source seq rows) a is = tt
  countable_on (Install client index q text) a is = tt
  countable_on (StepEntry q r) a is =
      let next : batch_count db q ≡ r = (steps_move catalog db q r a step.matched.shape is).before in
      let many = had.counts q in
      omega arith

-- what looks at the counts and streams of a database needs: they are as many as the catalogue's, and as far as the database
pub record Sees (catalog : Catalog) (db : Database) (counts : List ℕ) (streams : List Pending) : Type 0 where
  pub counts_many : length counts ≡ length catalog.procedures
  pub streams_many : length streams ≡ length catalog.streams
  pub far : HasProgress db counts streams

pub sees_of : (catalog : Catalog) (database : Held) (db : Database) (counts : List ℕ) → HasShape catalog db → StandsFor catalog database db → counts ≡ database.whole.cursors → Sees catalog db counts database.streams.streams
sees_of catalog database db counts shape stands are =
    let same = are ∙ stands.shard.counts in
    record {
      counts_many = ap (λ (ns : List ℕ). length ns) same ∙ shape.counts;
      streams_many = kept_many catalog db database.streams.streams stands.streams;
      far = progress catalog db counts database.streams.streams shape same stands.streams;
    }
