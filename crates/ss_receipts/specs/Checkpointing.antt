-- Checkpoints of a list: whose marks and what database they take, the image, and what is answered where one was to be written.
use Rattle.std.specs.Prelude.{◌≡◌, ◌≢◌, ℕ, ◌+◌, ◌≤◌, ◌^◌, true, List, length, map, Result, Ok, Err}
use Rattle.ss_model.specs.declared.catalog.Catalog.{Catalog}
use Rattle.ss_model.specs.declared.entry.Listed.{Listed}
use Rattle.ss_model.specs.Database.{Database}
use Rattle.ss_model.specs.Partitions.{touches}
use Rattle.ss_model.specs.Replays.{Replays, after}
use Rattle.ss_model.specs.Settling.{kept}
use Rattle.ss_stream.specs.OfDatabase.{AreStreamsOf}
use Rattle.ss_stream.specs.Pending.{Pending}
use Rattle.ss_shard.specs.Parts.{all_partitions}
use Rattle.ss_shard.specs.Shards.{IsCommitted}
use Rattle.ss_shard.specs.ShardValue.{ShardValue}
use Rattle.ss_shard.specs.Windows.{HoldsDatabase}
use Rattle.ss_commitlog.specs.declared.role.Role.TheVariants.{Part}
use Rattle.ss_commitlog.specs.declared.rule.Item.{Item}
use Rattle.ss_commitlog.specs.Meaning.{listed_of}
use Rattle.ss_commitlog.specs.Roles.{In}
use Rattle.ss_commitlog.specs.Tokens.{Known, roles_of, SeeOne}
use Rattle.ss_standing.specs.FitsImage.{FitsImage}
use Rattle.ss_standing.specs.Image.{image_bytes}
use Rattle.ss_receipts.specs.declared.durable.DurableError.{DurableError}
use Rattle.ss_receipts.specs.declared.durable.DurableError.TheVariants.{NoMemory, DiskFault, Halted}

-- the marks of all partitions
abbrev pub AreOfAllParts : ℕ → List Known → Type 0
AreOfAllParts n marks = roles_of marks ≡ map Part (all_partitions n)

-- these marks know a list
abbrev pub AllAt : List Item → List Known → Type 0
AllAt list marks = (k : Known) → In k marks → k.list ≡ list

-- any two of these marks have seen the same numbers
abbrev pub AllSeeOne : List Known → Type 0
AllSeeOne marks = (k l : Known) → In k marks → In l marks → SeeOne k l

-- each entry of a list touches some partition
abbrev pub EachTouches : Catalog → ℕ → List Item → Type 0
EachTouches catalog n list = (i : Item) → In i list → (p : ℕ) × (touches catalog n i.listed.entry p ≡ true)

-- so it is with each list that replays
abbrev pub ReplayedTouch : Catalog → ℕ → Database → Type 0
ReplayedTouch catalog n db = (list : List Item) → Replays catalog db (listed_of list) → EachTouches catalog n list

-- shard and streams are those of a database, and nothing of the shard is to be taken back
pub record IsOfDatabase (catalog : Catalog) (db : Database) (whole : ShardValue) (streams : List Pending) : Type 0 where
  pub committed : IsCommitted catalog whole
  pub holds : HoldsDatabase catalog whole db
  pub streams_are : AreStreamsOf catalog db streams

-- the marks know a list, behind which shard and streams stand
pub record StandAt (catalog : Catalog) (db : Database) (marks : List Known) (list : List Item) (whole : ShardValue) (streams : List Pending) : Type 0 where
  pub known : AllAt list marks
  pub of : IsOfDatabase catalog (after catalog db (listed_of list)) whole streams

-- the bytes are the image of what is kept behind all of a list, which replays and ends at this place
pub record IsImageBehind (catalog : Catalog) (db : Database) (first : ℕ) (list : List Listed) (place : ℕ) (bytes : List ℕ) : Type 0 where
  pub replays : Replays catalog db list
  pub end : place ≡ first + length list
  pub small : place ≤ 2 ^ 60
  pub fits : FitsImage true catalog (kept catalog (after catalog db list))
  pub spelled : bytes ≡ image_bytes true catalog (kept catalog (after catalog db list))

-- by the end of the list and the faults that are told: the current generation begins at this end, or the disk has failed
abbrev pub IsCheckpointed : ℕ → ℕ → Result ℕ DurableError → Type 0
IsCheckpointed end fault (Ok place) = place ≡ end
IsCheckpointed end fault (Err NoMemory) = Unit {0}
IsCheckpointed end fault (Err DiskFault) = fault ≢ 0
IsCheckpointed end fault (Err (Halted faults)) = (fault ≢ 0) × (faults ≡ fault)
