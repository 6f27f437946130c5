-- A shard on which all was rolled back.
use Rattle.std.proofs.Common.{List, sym, subst}
use Rattle.ss_model.specs.declared.catalog.Catalog.{Catalog}
use Rattle.ss_undo.specs.ResultsFrom.{ResultsFrom}
use Rattle.ss_undo.specs.Windows.{WindowsResultFrom}
use Rattle.ss_undo.specs.declared.change.Change.{Change}
use Rattle.ss_shard.specs.ShardValue.{ShardValue}
use Rattle.ss_shard.specs.Shards.{IsOf, CanRollBack, Changed, Same, IsCommitted}
use Rattle.ss_shard.proofs.CallerLemmas.{starts_here}

-- all was rolled back, so that there is nothing to roll back
back_here : (catalog : Catalog) (old new : ShardValue) → IsCommitted catalog old → IsCommitted catalog new → Same old new → CanRollBack old new
back_here catalog old new before after same = record {
  number = same.number;
  columns = same.columns;
  cursors = same.cursors;
  sources = same.sources;
  bodies = same.bodies.0;
  none_coming = before.none_coming;
  final = before.final;
  came = subst (λ (cs : List Change). ResultsFrom old.tables cs new.tables) (sym after.empty) same.tables;
  committed = before.committed;
  staged = subst (λ (cs : List Change). WindowsResultFrom old.windows cs new.windows) (sym after.empty) same.windows;
}

-- what a rollback leaves of a shard that has changed since a commit
pub record IsBack (catalog : Catalog) (old new : ShardValue) : Type 0 where
  pub same : Same old new
  pub committed : IsCommitted catalog new
  pub back : CanRollBack old new

pub is_back : (catalog : Catalog) (old changed new : ShardValue) → IsCommitted catalog old → Changed old changed → ((before : ShardValue) → CanRollBack before changed → Same before new) → ((catalog : Catalog) (before : ShardValue) → CanRollBack before changed → IsOf catalog before → IsCommitted catalog new) → IsBack catalog old new
is_back catalog old changed new before is same committed =
    let can = is.back old (starts_here catalog old before) in
    let here = same old can in
    let after = committed catalog old can before.of_catalog in
    record { same = here; committed = after; back = back_here catalog old new before after here }
