-- Shards between executions.
use Rattle.std.proofs.Common.{◌≡◌, List, [], ◌∷◌, map, drop, length, refl, sym, ap, subst, ◌∙◌, arith}
use Rattle.ss_model.specs.declared.catalog.Catalog.{Catalog}
use Rattle.ss_table.specs.TableValue.{TableValue}
use Rattle.ss_undo.specs.ResultsFrom.{ResultsFrom, all_committed}
use Rattle.ss_undo.specs.declared.change.Change.{Change}
use Rattle.ss_shard.specs.Bodies.{HasBodies, IsComing}
use Rattle.ss_shard.specs.ShardValue.{ShardValue}
use Rattle.ss_window.specs.Slides.{first_kept}
use Rattle.ss_window.specs.WindowValue.{WindowValue, commit, outdated_count, WindowInvariant}
use Rattle.ss_window.proofs.CallerLemmas.{same_count, still_held, settled_again}
use Rattle.ss_undo.specs.Windows.{WindowsResultFrom, AreCommittedWindows}
use Rattle.ss_shard.specs.Windows.{kept_part}
use Rattle.ss_shard.specs.Shards.{shape_of, shapes_of, frame_of, frames_of, AllKeyed, AllInvariant, HasTables, HasWindows, IsOf, CanRollBack, Same, IsCommitted}

shapes_final : (tables : List TableValue) → shapes_of (all_committed tables) ≡ shapes_of tables
shapes_final [] = refl
shapes_final (h ∷ hs) = ap (λ shapes. shape_of h ∷ shapes) (shapes_final hs)

keyed_final : (tables : List TableValue) → AllKeyed tables → AllKeyed (all_committed tables)
keyed_final [] k = tt
keyed_final (h ∷ hs) k = (record { keyed = (k.0).keyed; apart = (k.0).apart }, keyed_final hs k.1)

-- tables without their dead slots are still those of the catalogue
pub tables_final : (catalog : Catalog) (tables : List TableValue) → HasTables catalog tables → HasTables catalog (all_committed tables)
tables_final catalog tables has = record { shapes = shapes_final tables ∙ has.shapes; keyed = keyed_final tables has.keyed }

-- ---- windows

frames_settled : (windows : List WindowValue) → frames_of (map commit windows) ≡ frames_of windows
frames_settled [] = refl
frames_settled (w ∷ ws) = ap (λ frames. frame_of w ∷ frames) (frames_settled ws)

held_settled : (windows : List WindowValue) → AllInvariant windows → AllInvariant (map commit windows)
held_settled [] h = tt
held_settled (w ∷ ws) h = (still_held w h.0, held_settled ws h.1)

pub all_settled : (windows : List WindowValue) → AllInvariant windows → AreCommittedWindows (map commit windows)
all_settled [] h = tt
all_settled (w ∷ ws) h = (settled_again w h.0, all_settled ws h.1)

pub windows_settled : (catalog : Catalog) (windows : List WindowValue) → HasWindows catalog windows → HasWindows catalog (map commit windows)
windows_settled catalog windows has = record { frames = frames_settled windows ∙ has.frames; held = held_settled windows has.held }

-- a commit drops nothing that may still be seen
same_part : (w : WindowValue) → WindowInvariant w → kept_part (commit w) ≡ kept_part w
same_part w h =
    let count = same_count w h in
    let none : outdated_count (commit w) ≡ 0 = omega (arith, ap (first_kept w.size w.slide) count) in
    λ i. (count i, drop (none i) (commit w).kept)

pub same_parts : (windows : List WindowValue) → AllInvariant windows → map kept_part (map commit windows) ≡ map kept_part windows
same_parts [] h = refl
same_parts (w ∷ ws) h = λ i. same_part w h.0 i ∷ same_parts ws h.1 i

-- ---- from a settled shard an execution starts

pub starts_here : (catalog : Catalog) (shard : ShardValue) → IsCommitted catalog shard → CanRollBack shard shard
starts_here catalog shard s = record {
  number = refl;
  columns = refl;
  cursors = refl;
  sources = record { streams = refl; numbers = λ s source. refl };
  bodies = refl;
  none_coming = s.none_coming;
  final = s.final;
  came = subst (λ (changes : List Change). ResultsFrom shard.tables changes shard.tables) (sym s.empty) refl;
  committed = s.committed;
  staged = subst (λ (changes : List Change). WindowsResultFrom shard.windows changes shard.windows) (sym s.empty) refl;
}

-- where all is taken back the shard is of the catalogue again
pub of_same : (catalog : Catalog) (old new : ShardValue) → Same old new → IsOf catalog old → IsOf catalog new
of_same catalog old new same is = record {
  tables = subst (HasTables catalog) (sym same.tables) is.tables;
  indexes = same.columns ∙ is.indexes;
  windows = subst (HasWindows catalog) (sym same.windows) is.windows;
  cursors = ap length same.cursors ∙ is.cursors;
  sources = same.sources.streams ∙ is.sources;
  bodies = subst (HasBodies catalog) (sym same.bodies.0) is.bodies;
  coming = subst (IsComing catalog) (sym same.bodies.1) is.coming;
}
