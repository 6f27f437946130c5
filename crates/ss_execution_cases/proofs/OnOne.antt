-- An entry that ran on the one shard that it touches.
use Rattle.std.proofs.Common.{◌≡◌, ◌≤◌, ℕ, ◌==◌, ◌||◌, Bool, true, false, List, [], ◌∷◌, slice_get, slice_set, refl, sym, subst, ◌∙◌, Some}
use Rattle.std.proofs.Math.ListN.{length-set}
use Rattle.ss_lemmas.proofs.Numbers.{eqb_is}
use Rattle.ss_model.specs.declared.catalog.Catalog.{Catalog}
use Rattle.ss_model.specs.declared.entry.Entry.{Entry}
use Rattle.ss_model.specs.declared.entry.Entry.TheVariants.{Call, Push, Step as StepEntry, Install}
use Rattle.ss_model.specs.Accepted.{Accepted}
use Rattle.ss_model.specs.Contents.{Contents}
use Rattle.ss_model.specs.Database.{Database, NextNumbers, Applied, apply}
use Rattle.ss_model.specs.parts.HeldParts.{elsewhere_blank, UntouchedStay}
use Rattle.ss_model.specs.Partitions.{touches}
use Rattle.ss_shard.specs.ShardValue.{ShardValue}
use Rattle.ss_shard.specs.Sources.{SameNumbers}
use Rattle.ss_shard.specs.Windows.{Holds, HoldsDatabase}
use Rattle.ss_shard.specs.Parts.{is_among, HoldsParts, IsShardOf}
use Rattle.ss_shard.proofs.CallerLemmas.{each_set}
use Rattle.ss_proc.specs.declared.runner.Executed.{Executed}
use Rattle.ss_proc.specs.Entries.{AreAtHand, RanOnEach, Commits}
use Rattle.ss_proc.specs.Parts.{RanBeside, RunsOnParts}
use Rattle.ss_execution_cases.specs.Held.{AreOfOne, TakesNone, TouchesOnly}

own_is : (p q : ℕ) → is_among (p ∷ []) q ≡ true → p ≡ q
own_is p q e = eqb_is p q (by (p == q) e)
  where
    by : (b : Bool) → (b || false) ≡ true → b ≡ true
    by true h = refl
    by false h = h

-- an entry that takes no batch has its batches at hand
pub none_at_hand : (catalog : Catalog) (db : Database) (e : Entry) → TakesNone e → AreAtHand catalog db e []
none_at_hand catalog db (Call client index q args) none = refl
none_at_hand catalog db (Push client index s source seq rows) none = refl
none_at_hand catalog db (Install client index q text) none = refl
none_at_hand catalog db (StepEntry q r) none = absurd none

module _ (catalog : Catalog) (accepted : Accepted catalog) (n : ℕ) (some : 1 ≤ n) (e : Entry) (p : ℕ) (only : TouchesOnly catalog n e p) where
  elsewhere : (q : ℕ) → (q ≡ p → ⊥) → (r : ℕ) → is_among (q ∷ []) r ≡ true → touches catalog n e r ≡ false
  elsewhere q apart r among = by (touches catalog n e r) refl
    where
      by : (b : Bool) → touches catalog n e r ≡ b → touches catalog n e r ≡ false
      by true t = absurd (apart (own_is q r among ∙ sym (own_is p r (only r t))))
      by false t = t

  -- the other shards hold their parts still
  still : UntouchedStay → (db : Database) (a : Applied) → apply catalog db e ≡ Some a → (q : ℕ) → (q ≡ p → ⊥) → (s : ShardValue) → HoldsParts catalog n (q ∷ []) s db → HoldsParts catalog n (q ∷ []) s a.db
  still stay db a value q apart s holds =
      let same = stay catalog accepted n some (is_among (q ∷ [])) e (elsewhere q apart) db a value in
      record {
        contents = subst (λ (c : Contents). Holds catalog s c) (sym same.contents) holds.contents;
        counts = holds.counts ∙ sym same.counts;
        numbers = subst (λ (ns : List NextNumbers). SameNumbers ns s.sources) (sym same.next_numbers) holds.numbers;
        bodies = holds.bodies ∙ sym same.bodies;
      }

  -- so all of them hold their parts of what it leaves
  pub all_after : UntouchedStay → RunsOnParts → (shards : List ShardValue) (old mid new : ShardValue) (executed : Executed) → slice_get shards p ≡ Some old
      → RanOnEach catalog old mid e [] executed → Commits catalog e executed.outcome mid new → IsShardOf catalog n p new → TakesNone e
      → AreOfOne catalog n shards → AreOfOne catalog n (slice_set shards p new)
  all_after stay on_parts shards old mid new executed there ran commits is_shard none of_one =
      let db = of_one.1.0 in
      let beside : RanBeside catalog n (p ∷ []) db e executed mid = on_parts catalog accepted n some (p ∷ []) old mid e [] executed ran only db (of_one.1.1 p old there) (none_at_hand catalog db e none) in
      let here : HoldsParts catalog n (p ∷ []) new (beside.applied).db =
      subst (λ (a : Applied). HoldsDatabase catalog new a.db) beside.same (commits (elsewhere_blank catalog n (is_among (p ∷ [])) db) executed beside.ran refl) in (
        record {
          count = length-set shards p new ∙ of_one.0.count;
          each = each_set (λ q s. IsShardOf catalog n q s) shards p new (λ q s apart found. of_one.0.each q s found) is_shard;
        },
        ((beside.applied).db, each_set (λ q s. HoldsParts catalog n (q ∷ []) s (beside.applied).db) shards p new (λ q s apart found. still stay db beside.applied beside.value q apart s (of_one.1.1 q s found)) here),
      )

-- where nothing has run, all hold what they held
pub all_same : (catalog : Catalog) (n p : ℕ) (shards : List ShardValue) (old new : ShardValue) → slice_get shards p ≡ Some old → IsShardOf catalog n p new
    → ((db : Database) → HoldsDatabase catalog old db → HoldsDatabase catalog new db) → AreOfOne catalog n shards → AreOfOne catalog n (slice_set shards p new)
all_same catalog n p shards old new there is_shard holds of_one = (
  record {
    count = length-set shards p new ∙ of_one.0.count;
    each = each_set (λ q s. IsShardOf catalog n q s) shards p new (λ q s apart found. of_one.0.each q s found) is_shard;
  },
  (
    of_one.1.0,
    each_set (λ q s. HoldsParts catalog n (q ∷ []) s of_one.1.0) shards p new (λ q s apart found. of_one.1.1 q s found) (holds (elsewhere_blank catalog n (is_among (p ∷ [])) of_one.1.0) (of_one.1.1 p old there)),
  ),
)
