-- A run on the parts in hand, its commit and its end.
use Rattle.std.proofs.Common.{◌≡◌, ◌≤◌, ℕ, List, sym, subst, ◌∙◌}
use Rattle.std.specs.declared.result.Result.{Result}
use Rattle.ss_value.specs.Rows.{Rows}
use Rattle.ss_model.specs.declared.catalog.Catalog.{Catalog}
use Rattle.ss_model.specs.declared.entry.Emitted.{Emitted}
use Rattle.ss_model.specs.declared.entry.Listed.{Listed}
use Rattle.ss_model.specs.Accepted.{Accepted}
use Rattle.ss_model.specs.Database.{Database}
use Rattle.ss_shard.specs.ShardValue.{ShardValue}
use Rattle.ss_commitlog.specs.declared.placed.Placed.{Placed}
use Rattle.ss_commitlog.specs.declared.placed.Unlisted.{Unlisted}
use Rattle.ss_commitlog.specs.Right.{IsRight}
use Rattle.ss_commitlog.specs.Roles.{In}
use Rattle.ss_commitlog.specs.Tokens.{Known}
use Rattle.ss_hand.specs.declared.hand.Hand.{Hand}
use Rattle.ss_hand.specs.Hands.{IsInHand}
use Rattle.ss_turns.specs.Executed.{HoldsFor, StaysInHand}
use Rattle.ss_turns.specs.Runs.{AreGiven, HasEnded, HasRun, HasStayed, MayEnd, SaysOnly}
use Rattle.ss_turns.proofs.InHand.{Came, ended_in_hand, right_in_hand, still_in_hand}

-- which partitions a hand has
same_hand : {I : Type 0} (catalog : Catalog) (n : ℕ) (db : Database) (held other : List ℕ) (hand : Hand I) → IsInHand catalog n db held hand → IsInHand catalog n db other hand → held ≡ other
same_hand catalog n db held other hand a b = sym a.numbers ∙ b.numbers

-- a run that failed
pub stays_in_hand : {I : Type 0} (catalog : Catalog) → Accepted catalog → (n : ℕ) → 1 ≤ n → (db : Database) (hand : Hand I) (shard : ShardValue) → HasStayed catalog n hand.shard shard
    → StaysInHand catalog n db hand (record hand { shard = shard })
stays_in_hand catalog accepted n some db hand shard stays = λ held in_hand. still_in_hand catalog accepted n some db held hand in_hand shard stays

module _ {I : Type 0} (catalog : Catalog) (accepted : Accepted catalog) (n : ℕ) (some : 1 ≤ n) (db : Database) (hand : Hand I) (l : Listed) (holds : HoldsFor catalog n db hand l.entry) (batches : List Rows)
    (given : AreGiven catalog db hand.marks l.entry batches) (emitted : List Emitted) (now : ShardValue) (run : HasRun catalog n hand.shard now l batches emitted) where
  pub right_of_run : (ms : List Known) → ((k : Known) → In k hand.marks → In k ms) → IsRight catalog n db ms l emitted
  right_of_run ms more = right_in_hand catalog accepted n some db holds.held hand holds.in_hand l batches holds.touched given emitted now run ms more

  module _ (ks : List Known) (said : Result Placed Unlisted) (says : SaysOnly l said) (came : Came catalog n hand.marks l ks said) where
    pub run_may_end : MayEnd now said
    run_may_end = (catalog, n, hand.shard, l, batches, emitted, run, says)

    pub run_in_hand : (shard : ShardValue) → HasEnded now shard said → StaysInHand catalog n db hand (record hand { shard = shard; marks = ks })
    run_in_hand shard ended = λ held in_hand.
        subst (λ (ps : List ℕ). IsInHand catalog n db ps (record hand { shard = shard; marks = ks })) (same_hand catalog n db holds.held held hand holds.in_hand in_hand)
        (ended_in_hand catalog accepted n some db holds.held hand holds.in_hand l batches holds.touched given shard ks said (ended catalog n hand.shard l batches emitted run says) came)
