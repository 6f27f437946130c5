-- What a runner promises of an entry on a shard, as a run that waits for its end has it.
use Rattle.std.proofs.Common.{◌≡◌, ◌≤◌, ℕ, List, subst, Ok, Err, IfOk, OnErr}
use Rattle.std.specs.declared.result.Result.{Result}
use Rattle.ss_value.specs.Rows.{Rows}
use Rattle.ss_model.specs.declared.catalog.Catalog.{Catalog}
use Rattle.ss_model.specs.declared.entry.Entry.{Entry}
use Rattle.ss_model.specs.Accepted.{Accepted}
use Rattle.ss_model.specs.Database.{Database}
use Rattle.ss_model.specs.parts.HeldParts.{elsewhere_blank}
use Rattle.ss_proc.specs.declared.runner.Executed.{Executed}
use Rattle.ss_proc.specs.Entries.{EntryHasSource, IsCountable, RanOnEach}
use Rattle.ss_proc.specs.Parts.{RunsOnParts}
use Rattle.ss_shard.specs.Parts.{is_among}
use Rattle.ss_shard.specs.Shards.{CanRollBack, IsCommitted, IsOf, Same}
use Rattle.ss_shard.specs.ShardValue.{ShardValue}
use Rattle.ss_shard.specs.Windows.{HoldsDatabase}
use Rattle.ss_shard.proofs.CallerLemmas.{dealt_same}
use Rattle.ss_turns.specs.Runs.{HasRun, HasStayed}

module _ (catalog own : Catalog) (same : own ≡ catalog) (old new : ShardValue) {E : Type 0} (out : Result Executed E) where
  pub has_run : RunsOnParts → Accepted catalog → (e : Entry) (batches : List Rows) → IsCommitted catalog old → IsCountable e → IfOk out (RanOnEach own old new e batches) → IfOk out (λ x. EntryHasSource e x.outcome new.sources)
      → IsOf own new → IfOk out (λ x. CanRollBack old new) → IfOk out (λ x. (n : ℕ) → 1 ≤ n → HasRun catalog n old new (record { entry = e; outcome = x.outcome }) batches x.emitted)
  has_run law accepted e batches committed countable ran sourced of_catalog back = by out ran sourced back
    where
      by : (r : Result Executed E) → IfOk r (RanOnEach own old new e batches) → IfOk r (λ x. EntryHasSource e x.outcome new.sources) → IfOk r (λ x. CanRollBack old new)
          → IfOk r (λ x. (n : ℕ) → 1 ≤ n → HasRun catalog n old new (record { entry = e; outcome = x.outcome }) batches x.emitted)
      by (Err none) ran sourced back = tt
      by (Ok x) ran sourced back = λ n some. record {
        committed = committed;
        back = back;
        of_catalog = subst (λ (c : Catalog). IsOf c new) same of_catalog;
        countable = countable;
        sourced = sourced;
        ran = λ held. law catalog accepted n some held old new e batches x (subst (λ (c : Catalog). RanOnEach c old new e batches x) same ran);
      }

  pub has_stayed : OnErr out ((db : Database) → HoldsDatabase own old db → HoldsDatabase own new db) → OnErr out (Same old new) → OnErr out (IsCommitted own new) → OnErr out ((n : ℕ) → HasStayed catalog n old new)
  has_stayed holds alike committed = by out holds alike committed
    where
      by : (r : Result Executed E) → OnErr r ((db : Database) → HoldsDatabase own old db → HoldsDatabase own new db) → OnErr r (Same old new) → OnErr r (IsCommitted own new) → OnErr r ((n : ℕ) → HasStayed catalog n old new)
      by (Ok x) holds alike committed = tt
      by (Err none) holds alike committed = λ n. record {
        number = alike.number;
        parts = λ held has. record { running = has.running; committed = subst (λ (c : Catalog). IsCommitted c new) same committed; dealt = dealt_same catalog n held old new alike has.dealt };
        holds = λ held db here. subst (λ (c : Catalog). (d : Database) → HoldsDatabase c old d → HoldsDatabase c new d) same holds (elsewhere_blank catalog n (is_among held) db) here;
      }
