-- How the rows of tables are dealt to parts: no change of rows changes it.
use Rattle.std.proofs.Common.{◌≡◌, ◌∙◌, ℕ, List, [], ◌∷◌, map, refl, sym, ap, Some, slice_get, slice_set}
use Rattle.std.proofs.lemmas.Option.{get_or_from_slice_get}
use Rattle.std.proofs.Math.Seq.{map-set_same}
use Rattle.ss_model.specs.declared.catalog.Catalog.{Catalog}
use Rattle.ss_table.specs.TableValue.{TableValue}
use Rattle.ss_undo.specs.declared.change.Change.{Change}
use Rattle.ss_undo.specs.declared.change.Change.TheVariants.{Inserted, Deleted, Replaced, Amended, Staged}
use Rattle.ss_undo.specs.ResultsFrom.{Step, ResultsFrom, all_committed}
use Rattle.ss_shard.specs.ShardValue.{ShardValue}
use Rattle.ss_shard.specs.Shards.{CanRollBack, Same}
use Rattle.ss_shard.specs.Parts.{dealing_of, IsDealt}

-- tables without their dead slots
pub dealt_final : (tables : List TableValue) → map dealing_of (all_committed tables) ≡ map dealing_of tables
dealt_final [] = refl
dealt_final (h ∷ hs) = ap (λ ds. dealing_of h ∷ ds) (dealt_final hs)

dealt_set : (tables : List TableValue) (t : ℕ) (was now : TableValue) → slice_get tables t ≡ Some was → dealing_of now ≡ dealing_of was → map dealing_of (slice_set tables t now) ≡ map dealing_of tables
dealt_set tables t was now here same = map-set_same dealing_of tables t now was (same ∙ ap dealing_of (sym (get_or_from_slice_get tables t was was here)))

dealt_step : (before mid : List TableValue) (c : Change) → Step before c mid → map dealing_of mid ≡ map dealing_of before
dealt_step before mid (Inserted t slot) s = ap (map dealing_of) s.is ∙ dealt_set before t s.old s.new s.here (ap dealing_of (s.step).is)
dealt_step before mid (Deleted t slot) s = ap (map dealing_of) s.is ∙ dealt_set before t s.old s.new s.here (ap dealing_of (s.step).is)
dealt_step before mid (Replaced t slot row) s = ap (map dealing_of) s.is ∙ dealt_set before t s.old s.new s.here (ap dealing_of (s.step).is)
dealt_step before mid (Amended t slot row) s = ap (map dealing_of) s.is ∙ dealt_set before t s.old s.new s.here (ap dealing_of (s.step).is)
dealt_step before mid (Staged w) s = ap (map dealing_of) s

dealt_along : (before : List TableValue) (cs : List Change) (now : List TableValue) → ResultsFrom before cs now → map dealing_of now ≡ map dealing_of before
dealt_along before [] now r = ap (map dealing_of) r
dealt_along before (c ∷ cs) now (mid, step, rest) = dealt_along mid cs now rest ∙ dealt_step before mid c step

-- a shard in an execution, against the one that a rollback ends at
pub dealt_after : (before shard : ShardValue) → CanRollBack before shard → map dealing_of shard.tables ≡ map dealing_of before.tables
dealt_after before shard back = dealt_along before.tables shard.changes shard.tables back.came

pub still_dealt : (catalog : Catalog) (n : ℕ) (held : List ℕ) (before shard : ShardValue) → CanRollBack before shard → IsDealt catalog n held before → IsDealt catalog n held shard
still_dealt catalog n held before shard back dealt = dealt_after before shard back ∙ dealt

-- and where all is taken back
pub dealt_same : (catalog : Catalog) (n : ℕ) (held : List ℕ) (before shard : ShardValue) → Same before shard → IsDealt catalog n held before → IsDealt catalog n held shard
dealt_same catalog n held before shard same dealt = ap (map dealing_of) same.tables ∙ dealt
