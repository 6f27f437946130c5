-- A list of shards of which the first are joined into one: how that begins, goes on and back, and ends.
use Rattle.std.proofs.Common.{◌≡◌, ◌≤◌, ◌<◌, ◌∙◌, ℕ, suc, List, [], ◌∷◌, ◌++◌, length, slice_get, slice_set, Some, false, sym, ap, subst, arith}
use Rattle.std.proofs.Math.ListN.{length-set}
use Rattle.std.proofs.lemmas.List.FromFn.{length-range_with_len}
use Rattle.std.proofs.lemmas.Option.{slice_get_within}
use Rattle.ss_model.specs.declared.catalog.Catalog.{Catalog}
use Rattle.ss_model.specs.Database.{Database}
use Rattle.ss_shard.specs.Parts.{is_among, all_partitions, HasParts, HoldsParts, MayAbsorb, HasAbsorbed, MayRelease, HasReleased, IsShardOf, AreShards, HoldTheirParts, IsWholeShard}
use Rattle.ss_shard.specs.ShardValue.{ShardValue}
use Rattle.ss_shard.specs.Splits.{IsShellOf, AreNumberedShells, ArePartlyJoined, HoldPartlyJoined}
use Rattle.ss_shard.specs.Windows.{HoldsDatabase}
use Rattle.ss_shard.proofs.AllPartitions.{among_all, each_set, not_among, partitions_more}
use Rattle.ss_shard.proofs.Blanks.{nothing_blank}

-- one partition more, by the number of its shard
more_by : (k p : ℕ) → p ≡ k → all_partitions (suc k) ≡ all_partitions k ++ p ∷ []
more_by k p is = partitions_more k ∙ ap (λ q. all_partitions k ++ q ∷ []) (sym is)

fresh_by : (k p : ℕ) → p ≡ k → is_among (all_partitions k) p ≡ false
fresh_by k p is = ap (is_among (all_partitions k)) is ∙ not_among k k (omega arith)

-- ---- a part is given back

module _ (catalog : Catalog) (n k : ℕ) (whole : ShardValue) (shards : List ShardValue) (shell : ShardValue) (at : slice_get shards k ≡ Some shell) (joined : ArePartlyJoined catalog n (suc k) whole shards) where
  shell_of_last : IsShellOf catalog n k shell
  shell_of_last = joined.shells k shell at (omega arith)

  pub may_release : 1 ≤ k → MayRelease catalog n (all_partitions k) whole shell
  may_release some =
      let is = shell_of_last in
      record {
        parts = subst (λ held. HasParts catalog n held whole) (more_by k shell.number is.number) joined.parts;
        some = subst (λ m. 1 ≤ m) (sym (length-range_with_len 0 k)) some;
        fresh = fresh_by k shell.number is.number;
        lent = is.is_shell;
      }

  module _ (new back : ShardValue) (has : HasReleased catalog n (all_partitions k) whole shell new back) where
    back_is : IsShardOf catalog n k back
    back_is =
        let is = shell_of_last in
        record { number = has.back_number ∙ is.number; parts = subst (λ p. HasParts catalog n (p ∷ []) back) is.number has.back_parts }

    pub released : ArePartlyJoined catalog n k new (slice_set shards k back)
    released = record {
      number = has.number ∙ joined.number;
      parts = has.parts;
      count = length-set shards k back ∙ joined.count;
      shells = each_set (λ p y. p < k → IsShellOf catalog n p y) shards k back (λ p y apart there less. joined.shells p y there (omega arith)) (λ less. absurd (omega arith));
      others = each_set (λ p y. k ≤ p → IsShardOf catalog n p y) shards k back (λ p y apart there least. joined.others p y there (omega (arith, apart))) (λ least. back_is);
    }

    pub released_hold : (db : Database) → HoldPartlyJoined catalog n (suc k) whole shards db → HoldPartlyJoined catalog n k new (slice_set shards k back) db
    released_hold db hold =
        let is = shell_of_last in
        let both = subst (λ held. HoldsParts catalog n held whole db) (more_by k shell.number is.number) hold.first in
        let own = subst (λ p. HoldsParts catalog n (p ∷ []) back db) is.number (has.back_holds db both) in
        record {
          first = has.holds db both;
          others = each_set (λ p y. k ≤ p → HoldsParts catalog n (p ∷ []) y db) shards k back (λ p y apart there least. hold.others p y there (omega (arith, apart))) (λ least. own);
        }

-- ---- a part is taken in

module _ (catalog : Catalog) (n k : ℕ) (whole : ShardValue) (shards : List ShardValue) (shard : ShardValue) (at : slice_get shards k ≡ Some shard) (joined : ArePartlyJoined catalog n k whole shards) where
  shard_of_next : IsShardOf catalog n k shard
  shard_of_next = joined.others k shard at (omega arith)

  next_holds : (db : Database) → HoldPartlyJoined catalog n k whole shards db → HoldsParts catalog n (shard.number ∷ []) shard db
  next_holds db hold = subst (λ p. HoldsParts catalog n (p ∷ []) shard db) (sym shard_of_next.number) (hold.others k shard at (omega arith))

  pub may_absorb : (db : Database) → HoldPartlyJoined catalog n k whole shards db → MayAbsorb catalog n (all_partitions k) whole shard
  may_absorb db hold =
      let is = shard_of_next in
      record {
        own = joined.parts;
        others = subst (λ p. HasParts catalog n (p ∷ []) shard) (sym is.number) is.parts;
        fresh = fresh_by k shard.number is.number;
        holds = (db, hold.first, next_holds db hold);
      }

  module _ (new left : ShardValue) (has : HasAbsorbed catalog n (all_partitions k) whole shard new left) where
    left_is : IsShellOf catalog n k left
    left_is = record { number = has.shell_number ∙ shard_of_next.number; is_shell = has.left }

    pub absorbed : ArePartlyJoined catalog n (suc k) new (slice_set shards k left)
    absorbed = record {
      number = has.number ∙ joined.number;
      parts = subst (λ held. HasParts catalog n held new) (sym (more_by k shard.number shard_of_next.number)) has.parts;
      count = length-set shards k left ∙ joined.count;
      shells = each_set (λ p y. p < suc k → IsShellOf catalog n p y) shards k left (λ p y apart there less. joined.shells p y there (omega (arith, apart))) (λ less. left_is);
      others = each_set (λ p y. suc k ≤ p → IsShardOf catalog n p y) shards k left (λ p y apart there least. joined.others p y there (omega arith)) (λ least. absurd (omega arith));
    }

    pub absorbed_hold : (db : Database) → HoldPartlyJoined catalog n k whole shards db → HoldPartlyJoined catalog n (suc k) new (slice_set shards k left) db
    absorbed_hold db hold = record {
      first = subst (λ held. HoldsParts catalog n held new db) (sym (more_by k shard.number shard_of_next.number)) (has.holds db hold.first (next_holds db hold));
      others = each_set (λ p y. suc k ≤ p → HoldsParts catalog n (p ∷ []) y db) shards k left (λ p y apart there least. hold.others p y there (omega arith)) (λ least. absurd (omega arith));
    }

-- ---- all parts are in one

module _ (catalog : Catalog) (n : ℕ) (some : 1 ≤ n) (whole : ShardValue) where
  all_or_whole : (db : Database) → HoldsDatabase catalog whole db → HoldsParts catalog n (all_partitions n) whole db
  all_or_whole db = subst (λ (d : Database). HoldsDatabase catalog whole d) (sym (nothing_blank catalog n (is_among (all_partitions n)) some (among_all n) db))

  pub all_begins : (shells : List ShardValue) → AreNumberedShells catalog n shells → IsWholeShard catalog n whole → ArePartlyJoined catalog n n whole shells
  all_begins shells are is = record {
    number = is.number;
    parts = is.parts;
    count = are.count;
    shells = λ p shell at less. are.each p shell at;
    others = λ p shard at least. absurd (let within = slice_get_within shells p shard at in let count = are.count in omega arith);
  }

  pub all_begins_hold : (shells : List ShardValue) → length shells ≡ n → (db : Database) → HoldsDatabase catalog whole db → HoldPartlyJoined catalog n n whole shells db
  all_begins_hold shells count db holds = record {
    first = all_or_whole db holds;
    others = λ p shard at least. absurd (let within = slice_get_within shells p shard at in omega arith);
  }

  pub all_ends_hold : (shards : List ShardValue) (db : Database) → HoldPartlyJoined catalog n n whole shards db → HoldsDatabase catalog whole db
  all_ends_hold shards db hold = subst (λ (d : Database). HoldsDatabase catalog whole d) (nothing_blank catalog n (is_among (all_partitions n)) some (among_all n) db) hold.first

-- ---- each part is at its number

module _ (catalog : Catalog) (n : ℕ) (whole : ShardValue) (shards list : List ShardValue) where
  -- a shell takes the place of the first
  module _ (are : AreShards catalog n shards) (at : slice_get shards 0 ≡ Some whole) (shell : ShardValue) (is : list ≡ slice_set shards 0 shell) where
    pub each_begins : IsShellOf catalog n 0 shell → ArePartlyJoined catalog n 1 whole list
    each_begins shell_is =
        let first = are.each 0 whole at in
        subst (λ (l : List ShardValue). ArePartlyJoined catalog n 1 whole l) (sym is)
        (
        record {
          number = first.number;
          parts = first.parts;
          count = length-set shards 0 shell ∙ are.count;
          shells = each_set (λ p y. p < 1 → IsShellOf catalog n p y) shards 0 shell (λ p y apart there less. absurd (omega (arith, apart))) (λ less. shell_is);
          others = each_set (λ p y. 1 ≤ p → IsShardOf catalog n p y) shards 0 shell (λ p y apart there least. are.each p y there) (λ least. absurd (omega arith));
        }
        )

    pub each_begins_hold : (db : Database) → HoldTheirParts catalog n shards db → HoldPartlyJoined catalog n 1 whole list db
    each_begins_hold db hold =
        subst (λ (l : List ShardValue). HoldPartlyJoined catalog n 1 whole l db) (sym is)
        (
        record {
          first = hold 0 whole at;
          others = each_set (λ p y. 1 ≤ p → HoldsParts catalog n (p ∷ []) y db) shards 0 shell (λ p y apart there least. hold p y there) (λ least. absurd (omega arith));
        }
        )

  -- the first takes its place again
  module _ (is : list ≡ slice_set shards 0 whole) where
    pub each_ends : ArePartlyJoined catalog n 1 whole shards → AreShards catalog n list
    each_ends joined =
        subst (λ (l : List ShardValue). AreShards catalog n l) (sym is)
        (
        record {
          count = length-set shards 0 whole ∙ joined.count;
          each = each_set (λ p y. IsShardOf catalog n p y) shards 0 whole (λ p y apart there. joined.others p y there (omega (arith, apart))) (record { number = joined.number; parts = joined.parts });
        }
        )

    pub each_ends_hold : (db : Database) → HoldPartlyJoined catalog n 1 whole shards db → HoldTheirParts catalog n list db
    each_ends_hold db hold =
        subst (λ (l : List ShardValue). HoldTheirParts catalog n l db) (sym is)
        (each_set (λ p y. HoldsParts catalog n (p ∷ []) y db) shards 0 whole (λ p y apart there. hold.others p y there (omega (arith, apart))) hold.first)
