-- A run that ends by a commit.
use Rattle.std.proofs.Common.{◌≡◌, ℕ, List, refl, sym, subst, ◌∙◌, map, Ok}
use Rattle.std.specs.declared.result.Result.{Result}
use Rattle.ss_value.specs.Rows.{Rows}
use Rattle.ss_model.specs.declared.catalog.Catalog.{Catalog}
use Rattle.ss_model.specs.declared.entry.Emitted.{Emitted}
use Rattle.ss_model.specs.declared.entry.Listed.{Listed}
use Rattle.ss_model.specs.Database.{Applied}
use Rattle.ss_model.specs.parts.HeldParts.{elsewhere_blank}
use Rattle.ss_proc.specs.Entries.{Commits}
use Rattle.ss_shard.specs.Parts.{dealing_of, is_among}
use Rattle.ss_shard.specs.Shards.{IsCommitted}
use Rattle.ss_shard.specs.ShardValue.{ShardValue}
use Rattle.ss_shard.specs.Windows.{HoldsDatabase}
use Rattle.ss_shard.proofs.CallerLemmas.{still_dealt}
use Rattle.ss_commitlog.specs.declared.placed.Placed.{Placed}
use Rattle.ss_commitlog.specs.declared.placed.Unlisted.{Unlisted}
use Rattle.ss_turns.specs.Runs.{HasRun, HasCommitted, SaysOnly, EndedAsSaid}

module _ (catalog : Catalog) (n : ℕ) (old now new : ShardValue) (l : Listed) (batches : List Rows) (emitted : List Emitted) (run : HasRun catalog n old now l batches emitted) where
  committed_so : Commits catalog l.entry l.outcome now new → new.number ≡ now.number → map dealing_of new.tables ≡ map dealing_of now.tables → IsCommitted catalog new → HasCommitted catalog n old new l.entry batches
  committed_so keeps number dealt committed = record {
    number = number ∙ run.back.number;
    parts = λ held has. record { running = has.running; committed = committed; dealt = dealt ∙ still_dealt catalog n held old now run.back has.dealt };
    holds = λ held touched db stands hand.
        let beside = run.ran held touched db stands hand in
        record {
          applied = beside.applied;
          value = beside.value;
          holds = subst (λ (a : Applied). HoldsDatabase catalog new a.db) beside.same (keeps (elsewhere_blank catalog n (is_among held) db) (record { outcome = l.outcome; emitted = emitted }) beside.ran refl);
        };
  }

  -- what has a place was committed
  pub listed_so : (said : Result Placed Unlisted) (placed : Placed) → said ≡ Ok placed → SaysOnly l said → Commits catalog placed.listed.entry placed.listed.outcome now new → new.number ≡ now.number → map dealing_of new.tables ≡ map dealing_of now.tables
      → IsCommitted catalog new → EndedAsSaid catalog n old new l.entry batches said
  listed_so said placed is says keeps number dealt committed =
      let same : placed.listed ≡ l = subst (SaysOnly l) is says in
      subst (EndedAsSaid catalog n old new l.entry batches) (sym is) (committed_so (subst (λ (x : Listed). Commits catalog x.entry x.outcome now new) same keeps) number dealt committed)
