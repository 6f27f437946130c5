-- What an entry is on a shard that holds the parts that it touches.
use Rattle.std.specs.Prelude.{◌≡◌, ◌≤◌, ℕ, List, Some}
use Rattle.ss_value.specs.Rows.{Rows}
use Rattle.ss_model.specs.declared.catalog.Catalog.{Catalog}
use Rattle.ss_model.specs.declared.entry.Entry.{Entry}
use Rattle.ss_model.specs.Accepted.{Accepted}
use Rattle.ss_model.specs.Database.{Database, Applied, apply}
use Rattle.ss_model.specs.parts.HeldParts.{elsewhere_blank, blank_after, HoldsTouched}
use Rattle.ss_shard.specs.ShardValue.{ShardValue}
use Rattle.ss_shard.specs.Parts.{is_among, HoldsParts}
use Rattle.ss_proc.specs.Entries.{AreAtHand, Ran, RanOnEach}
use Rattle.ss_proc.specs.declared.runner.Executed.{Executed}

-- an entry has run beside blanks for all but these partitions, and what it came to there is what it comes to on the whole database,
-- with the same blanks
pub record RanBeside (catalog : Catalog) (n : ℕ) (held : List ℕ) (db : Database) (e : Entry) (executed : Executed) (shard : ShardValue) : Type 0 where
  pub applied : Applied
  pub value : apply catalog db e ≡ Some applied
  pub ran : Ran catalog (elsewhere_blank catalog n (is_among held) db) e executed shard
  pub same : ran.applied ≡ blank_after catalog n (is_among held) applied

-- an entry has run on each database of which the shard held the parts of these partitions, among them all that the entry touches
abbrev pub RanOnParts : Catalog → ℕ → List ℕ → ShardValue → ShardValue → Entry → List Rows → Executed → Type 0
RanOnParts catalog n held old new e batches executed =
    HoldsTouched catalog n (is_among held) e → (db : Database) → HoldsParts catalog n held old db → AreAtHand catalog db e batches → RanBeside catalog n held db e executed new

-- law: what ran on each database that a shard stood for, ran on each of which it held the parts that the entry touches
abbrev pub RunsOnParts : Type 0
RunsOnParts =
    (catalog : Catalog) → Accepted catalog → (n : ℕ) → 1 ≤ n → (held : List ℕ) (old new : ShardValue) (e : Entry) (batches : List Rows) (executed : Executed) →
    RanOnEach catalog old new e batches executed → RanOnParts catalog n held old new e batches executed
