-- Partitions before the first entry.
use Rattle.std.proofs.Common.{◌≡◌, ◌<◌, ◌+◌, ℕ, suc, List, [], ◌∷◌, ◌++◌, length, slice_get, Some, refl, sym, ap, ◌∙◌, subst, arith}
use Rattle.std.proofs.lemmas.List.{length_push}
use Rattle.ss_model.specs.declared.catalog.Catalog.{Catalog}
use Rattle.ss_model.specs.Database.{Database}
use Rattle.ss_commitlog.specs.declared.role.Role.TheVariants.{Part}
use Rattle.ss_commitlog.specs.Rule.{numbered}
use Rattle.ss_commitlog.specs.Tokens.{Known, known, at_opening}
use Rattle.ss_party.specs.Tags.{TagsFrom}
use Rattle.ss_hand.specs.Partitions.{IsPartition, PartitionView}
use Rattle.ss_shard.specs.Parts.{HasParts, HoldsParts, IsShardOf, IsWholeShard, AreShards, HoldTheirParts, WasSplit}
use Rattle.ss_shard.specs.Windows.{HoldsDatabase}
use Rattle.ss_shard.specs.ShardValue.{ShardValue}
use Rattle.ss_opening.specs.Openings.{ArePartitionsFrom}

-- a shard that holds its part at the opening, with the mark of its partition before the first entry
own_partition : (catalog : Catalog) (n : ℕ) (db : Database) (first p : ℕ) (s : ShardValue) → p < n → IsShardOf catalog n p s → HoldsParts catalog n (p ∷ []) s db → IsPartition catalog n db s (known (Part p) [] first 0)
own_partition catalog n db first p s low is holds = record {
  runs = subst (λ k. k < n) (sym is.number) low;
  own = ap Part (sym is.number);
  parts = subst (λ k. HasParts catalog n (k ∷ []) s) (sym is.number) is.parts;
  holds = subst (λ k. HoldsParts catalog n (k ∷ []) s db) (sym is.number) holds;
}

from_one : (catalog : Catalog) (n : ℕ) (db : Database) (first p : ℕ) (shards : List ShardValue) → p + length shards ≡ n
    → ((k q : ℕ) (s : ShardValue) → slice_get shards k ≡ Some s → q ≡ p + k → IsShardOf catalog n q s × HoldsParts catalog n (q ∷ []) s db)
    → ArePartitionsFrom catalog n db p shards (at_opening first (numbered Part p (length shards) []))
from_one catalog n db first p [] long each = tt
from_one catalog n db first p (s ∷ ss) long each =
    let at = each 0 p s refl (omega arith) in
    (at.0.number, own_partition catalog n db first p s (omega arith) at.0 at.1, from_one catalog n db first (suc p) ss (omega arith) (λ k q t is e. each (suc k) q t is (omega arith)))

-- the shards of a database that was split at the opening, with the marks of the partitions
pub opened_partitions : (catalog : Catalog) (n : ℕ) (db : Database) (first : ℕ) (shards : List ShardValue) → AreShards catalog n shards → HoldTheirParts catalog n shards db
    → ArePartitionsFrom catalog n db 0 shards (at_opening first (numbered Part 0 n []))
opened_partitions catalog n db first shards are hold =
    let begins : 0 + length shards ≡ n = (let count = are.count in omega arith) in
    subst (λ m. ArePartitionsFrom catalog n db 0 shards (at_opening first (numbered Part 0 m []))) are.count
    (from_one catalog n db first 0 shards begins (λ k q s is e.
    let same : k ≡ q = omega arith in
    subst (λ x. IsShardOf catalog n x s × HoldsParts catalog n (x ∷ []) s db) same (are.each k s is, hold k s is)))

-- one value more in the order of tags
tags_more : (p : ℕ) (made : List PartitionView) (one : PartitionView) → TagsFrom (λ (x : PartitionView). x.shard.number) p made → one.shard.number ≡ p + length made → TagsFrom (λ (x : PartitionView). x.shard.number) p (made ++ one ∷ [])
tags_more p [] one tags is = (is ∙ (omega arith), tt)
tags_more p (x ∷ xs) one tags is = (tags.0, tags_more (suc p) xs one tags.1 (is ∙ (omega arith)))

-- the same shard, by equal catalogues and counts
pub whole_of : (catalog of : Catalog) (parts n : ℕ) (whole : ShardValue) → catalog ≡ of → parts ≡ n → IsWholeShard of n whole → IsWholeShard catalog parts whole
whole_of catalog of parts n whole a b is = subst (λ (c : Catalog). IsWholeShard c parts whole) (sym a) (subst (λ k. IsWholeShard of k whole) (sym b) is)

pub split_partitions : (catalog of : Catalog) (parts n : ℕ) (whole : ShardValue) (db : Database) (first : ℕ) (shards : List ShardValue) → catalog ≡ of → parts ≡ n → HoldsDatabase of whole db → WasSplit catalog parts whole shards
    → ArePartitionsFrom of n db 0 shards (at_opening first (numbered Part 0 n []))
split_partitions catalog of parts n whole db first shards a b holds was =
    let split : WasSplit of n whole shards = subst (λ (c : Catalog). WasSplit c n whole shards) a (subst (λ k. WasSplit catalog k whole shards) b was) in
    opened_partitions of n db first shards split.shards_are (split.holds db holds)

-- the next shard and mark, and those behind them
pub record NextMade (catalog : Catalog) (n : ℕ) (db : Database) (made new : List PartitionView) (shards olds : List ShardValue) (marks : List Known) : Type 0 where
  pub left : ArePartitionsFrom catalog n db (length new) shards marks
  pub tags : TagsFrom (λ (p : PartitionView). p.shard.number) 0 new
  pub many : length new ≡ length made + 1
  pub shorter : length olds ≡ length shards + 1

pub partition_more : (catalog : Catalog) (n : ℕ) (db : Database) (made new : List PartitionView) (s : ShardValue) (k : Known) (one : PartitionView) (shards : List ShardValue) (marks : List Known) (olds : List ShardValue) (old_marks : List Known)
    → ArePartitionsFrom catalog n db (length made) olds old_marks → olds ≡ s ∷ shards → old_marks ≡ k ∷ marks → one ≡ record { shard = s; mark = k } → new ≡ made ++ one ∷ []
    → TagsFrom (λ (p : PartitionView). p.shard.number) 0 made → NextMade catalog n db made new shards olds marks
partition_more catalog n db made new s k one shards marks olds old_marks left a b is e tags =
    let both : ArePartitionsFrom catalog n db (length made) (s ∷ shards) (k ∷ marks) =
    subst (λ (ks : List Known). ArePartitionsFrom catalog n db (length made) (s ∷ shards) ks) b (subst (λ (ss : List ShardValue). ArePartitionsFrom catalog n db (length made) ss old_marks) a left) in
    let more : length new ≡ length made + 1 = ap (λ (ps : List PartitionView). length ps) e ∙ length_push made one in
    let next : suc (length made) ≡ length new = omega arith in
    let number : one.shard.number ≡ length made = ap (λ (p : PartitionView). p.shard.number) is ∙ both.0 in
    let tag : one.shard.number ≡ 0 + length made = omega arith in
    record {
      left = subst (λ m. ArePartitionsFrom catalog n db m shards marks) next both.2;
      tags = subst (λ (ps : List PartitionView). TagsFrom (λ (p : PartitionView). p.shard.number) 0 ps) (sym e) (tags_more 0 made one tags tag);
      many = more;
      shorter = (let long = ap (λ (ss : List ShardValue). length ss) a in omega arith);
    }
