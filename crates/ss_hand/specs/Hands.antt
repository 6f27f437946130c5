-- What is in hand.
use Rattle.std.specs.Prelude.{◌≡◌, ◌<◌, ◌↔◌, ℕ, List, ◌∷◌, map, Contains}
use Rattle.std.specs.Int.{IsBitSet}
use Rattle.std.specs.List.{AllByRecursion}
use Rattle.std.specs.List.Sorted.{IsStrictlyIncreasing}
use Rattle.atomic_table.specs.Seated.{TableId}
use Rattle.ss_model.specs.declared.catalog.Catalog.{Catalog}
use Rattle.ss_model.specs.Database.{Database}
use Rattle.ss_commitlog.specs.declared.role.Role.TheVariants.{Part}
use Rattle.ss_commitlog.specs.Right.{AgreesWith}
use Rattle.ss_commitlog.specs.Tokens.{Known, roles_of}
use Rattle.ss_party.specs.Turns.{TurnValue, turn_of}
use Rattle.ss_shard.specs.Parts.{HasParts, HoldsParts}
use Rattle.ss_shard.specs.ShardValue.{ShardValue}
use Rattle.ss_shard.specs.Unions.{numbers_of, AreShells}
use Rattle.ss_hand.specs.declared.hand.Hand.{Hand}

-- there is a database of which the shard has the parts of these partitions, and each mark's own list leaves its partition's part as
-- it is there
pub record AreOfOne (catalog : Catalog) (n : ℕ) (db : Database) (held : List ℕ) (shard : ShardValue) (marks : List Known) : Type 0 where
  pub database : Database
  pub holds : HoldsParts catalog n held shard database
  pub agrees : AgreesWith catalog n db marks database

-- the partitions in hand, in rising order: one shard with all their parts, whose number is the least, the shells of the others, and
-- the mark of each
pub record IsInHand {I : Type 0} (catalog : Catalog) (n : ℕ) (db : Database) (held : List ℕ) (hand : Hand I) : Type 0 where
  pub rising : IsStrictlyIncreasing held
  pub run : AllByRecursion (λ p. p < n) held
  pub numbers : hand.shard.number ∷ numbers_of hand.shells.items ≡ held
  pub parts : HasParts catalog n held hand.shard
  pub left : AreShells catalog n hand.shells.items
  pub roles : roles_of hand.marks ≡ map Part held
  pub of_one : AreOfOne catalog n db held hand.shard hand.marks

-- just these partitions are in hand, and the marks know the list that the note knows
pub record KnowsWith {I : Type 0} (catalog : Catalog) (n : ℕ) (db : Database) (held : List ℕ) (note : Known) (hand : Hand I) : Type 0 where
  pub in_hand : IsInHand catalog n db held hand
  pub know_one : AllByRecursion (λ k. k.list ≡ note.list) hand.marks

-- just the partitions of a set are in hand, with the turns of their bays, and the marks know the list that the note knows
pub record WereTaken {I : Type 0} (catalog : Catalog) (n : ℕ) (db : Database) (bays : TableId) (set : ℕ) (note : Known) (hand : Hand I) (turns : List TurnValue) : Type 0 where
  pub held : List ℕ
  pub members : (p : ℕ) → IsBitSet set p ↔ Contains held p
  pub in_hand : IsInHand catalog n db held hand
  pub turns_are : turns ≡ map (turn_of bays) held
  pub know_one : AllByRecursion (λ k. k.list ≡ note.list) hand.marks
