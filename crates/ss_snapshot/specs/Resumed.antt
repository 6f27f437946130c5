-- Streams of the program from what is kept of them.
use Rattle.std.specs.Prelude.{◌≡◌, ◌^◌, ℕ, List, map}
use Rattle.ss_value.specs.Rows.{Rows}
use Rattle.ss_model.specs.declared.catalog.Catalog.{Catalog}
use Rattle.ss_model.specs.Database.{Database}
use Rattle.ss_model.specs.Settling.{kept}
use Rattle.ss_model.specs.WholeDatabase.{HadAtMost, WholeDatabase}

-- the kept batches of each stream
abbrev pub batches_of : List (ℕ × (ℕ × List Rows)) → List (List Rows)
batches_of streams = map (λ s. s.1.1) streams

-- these streams and counts are kept of a whole database that had at most 2^60 executions
pub record AreKeptOf (catalog : Catalog) (kept_streams : List (ℕ × (ℕ × List Rows))) (taken : List ℕ) (d : Database) : Type 0 where
  pub whole : WholeDatabase catalog d
  pub had : HadAtMost (2 ^ 60) d
  pub streams : kept_streams ≡ (kept catalog d).streams
  pub counts : taken ≡ d.counts
