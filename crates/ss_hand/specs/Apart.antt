-- Partitions beside one another, before their parts are in one shard.
use Rattle.std.specs.Prelude.{◌≡◌, ◌≤◌, ◌+◌, ◌↔◌, ℕ, List, [], ◌∷◌, map, Contains, vec_len, vec_capacity}
use Rattle.std.specs.Int.{IsBitSet}
use Rattle.std.specs.List.Sorted.{IsStrictlyIncreasing}
use Rattle.atomic_table.specs.Seated.{TableId}
use Rattle.ss_model.specs.declared.catalog.Catalog.{Catalog}
use Rattle.ss_model.specs.Database.{Database}
use Rattle.ss_commitlog.specs.Tokens.{Known}
use Rattle.ss_party.specs.Turns.{TurnValue, turn_of}
use Rattle.ss_shard.specs.ShardValue.{ShardValue}
use Rattle.ss_shard.specs.Unions.{numbers_of}
use Rattle.ss_hand.specs.declared.apart.Apart.{Apart}
use Rattle.ss_hand.specs.declared.apart.Room.{Room}
use Rattle.ss_hand.specs.declared.hand.Hand.{Hand}
use Rattle.ss_hand.specs.Partitions.{IsPartition}

-- each of these shards may be in a bay with the mark at its place
abbrev pub ArePartitions : Catalog → ℕ → Database → List ShardValue → List Known → Type 0
ArePartitions catalog n db [] [] = Unit {0}
ArePartitions catalog n db (s ∷ ss) (k ∷ ks) = IsPartition catalog n db s k × ArePartitions catalog n db ss ks
ArePartitions catalog n db _ _ = ⊥

-- the shards of partitions that come together, and those in hand
abbrev pub shards_of : {I : Type 0} → Apart I → List ShardValue
shards_of apart = apart.first ∷ apart.others.items

abbrev pub shards_in : {I : Type 0} → Hand I → List ShardValue
shards_in hand = hand.shard ∷ hand.shells.items

-- the partitions that those in hand are of
abbrev pub numbers_in : {I : Type 0} → Hand I → List ℕ
numbers_in hand = numbers_of (shards_in hand)

-- each shard in hand has its own part alone, and its mark
abbrev pub AreSetApart : {I : Type 0} → Catalog → ℕ → Database → Hand I → Type 0
AreSetApart catalog n db hand = ArePartitions catalog n db (shards_in hand) hand.marks

-- empty lists with room for so many partitions
pub record IsRoom {I : Type 0} (count : ℕ) (room : Room I) : Type 0 where
  pub no_shards : room.shards.items ≡ []
  pub no_marks : room.marks.items ≡ []
  pub for_shards : vec_len room.shards + count ≤ vec_capacity room.shards
  pub for_marks : vec_len room.marks + count ≤ vec_capacity room.marks

-- there is room for so many more
pub record HasRoom {I : Type 0} (count : ℕ) (apart : Apart I) : Type 0 where
  pub for_shards : vec_len apart.others + count ≤ vec_capacity apart.others
  pub for_marks : vec_len apart.marks + count ≤ vec_capacity apart.marks

-- just the partitions of a set, in rising order, each with its own part alone, and the turns of their bays
pub record WereTakenOut {I : Type 0} (catalog : Catalog) (n : ℕ) (db : Database) (bays : TableId) (set : ℕ) (hand : Hand I) (turns : List TurnValue) : Type 0 where
  pub members : (p : ℕ) → IsBitSet set p ↔ Contains (numbers_in hand) p
  pub rising : IsStrictlyIncreasing (numbers_in hand)
  pub are : AreSetApart catalog n db hand
  pub turns_are : turns ≡ map (turn_of bays) (numbers_in hand)
