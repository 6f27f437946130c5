use Rattle.std.proofs.Common.{refl, [], ◌∷◌, ◌++◌, subst, sym, ap, ◌∙◌, slice_set}
use Rattle.ss_value.specs.Rows.{Row}
use Rattle.ss_undo.specs.declared.change.Change.TheVariants.{Deleted}
use Rattle.ss_undo.specs.ResultsFrom.{Step}
use Rattle.ss_undo.specs.Indexed.{AreIndexed, columns_of}
use Rattle.ss_undo.proofs.CallerLemmas.{one_changed, deleted_indexed, found_as, noted_stayed, reported_as}
use Rattle.ss_shard.specs.ShardValue.{ShardValue}
use Rattle.ss_shard.specs.Shards.{Changed}
use Rattle.ss_shard.specs.Rows.{StandsIn, RowTaken}
use Rattle.ss_table.specs.TableValue.{TableValue}
use Rattle.ss_shard.proofs.Shapes.{shapes_kept, all_set}
use Rattle.ss_shard.proofs.Changing.{noted, taken}
use Rattle.ss_shard.proofs.shard.Shard.delete_row.Goals as goal

pub invariant_of-self-2 : goal.invariant_of-self-2
invariant_of-self-2 c =
    let inside = c.self.inside in
    let t = c.args.table in
    let now = c.mark_dead.new.self in
    let items = c.note.ensures.items ∙ ap (λ cs. cs ++ Deleted t c.args.slot ∷ []) c.room.ensures.unchanged in (
      subst (λ cs. AreIndexed (slice_set inside.tables c.from.result now) cs inside.indexes) (sym items)
          (reported_as inside.tables t c.from.result now now (inside.undo.items ++ Deleted t c.args.slot ∷ []) inside.indexes inside.indexes c.from.ensures refl refl
          (deleted_indexed inside.tables inside.indexes t c.args.slot c.in-Some.rows.now now (found_as inside.tables t c.from.result c.in-Some.rows.now c.from.ensures c.in-Some.ensures.item) inside.undo.items c.self.invariant.0 c.mark_dead.ensures.step)),
      noted_stayed (columns_of inside.indexes) (columns_of inside.indexes) inside.tables (slice_set inside.tables c.from.result now) inside.undo.items c.note.new.self.items (Deleted t c.args.slot) refl items c.self.invariant.1
          (subst (λ u. Step inside.tables (Deleted u c.args.slot) (slice_set inside.tables c.from.result now)) c.from.ensures ((one_changed inside.tables c.from.result c.args.slot c.in-Some.rows.now now [] c.in-Some.ensures.item).1 c.mark_dead.ensures.step)) tt,
    )

pub returns-clause-ok : goal.returns-clause-ok
returns-clause-ok c =
    let tables = c.self.inside.tables in
    let now = c.mark_dead.new.self in
    subst (λ (s : ShardValue). (key row : Row) → StandsIn s.tables c.args.table key c.args.slot row → RowTaken s.tables (slice_set tables c.from.result now) c.args.table key) c.self.view_is
    (subst (λ t. (key row : Row) → StandsIn tables t key c.args.slot row → RowTaken tables (slice_set tables c.from.result now) t key) c.from.ensures
    (taken tables c.from.result c.args.slot c.in-Some.rows.now now c.in-Some.ensures.item c.rows_are_keyed.ensures c.mark_dead.ensures.step))

pub returns-clause-changed : goal.returns-clause-changed
returns-clause-changed c =
    let inside = c.self.inside in
    let tables = inside.tables in
    let now = c.mark_dead.new.self in
    let old : ShardValue = record { number = inside.number; tables = inside.tables; changes = inside.undo.items; columns = columns_of inside.indexes; windows = inside.windows; cursors = inside.cursors; sources = inside.sources; bodies = inside.bodies; coming = inside.coming } in
    let new : ShardValue = record { number = inside.number; tables = slice_set tables c.from.result now; changes = c.note.new.self.items; columns = columns_of inside.indexes; windows = inside.windows; cursors = inside.cursors; sources = inside.sources; bodies = inside.bodies; coming = inside.coming } in
    subst (λ (s : ShardValue). Changed s new) c.self.view_is
    (noted old new (Deleted c.args.table c.args.slot) (refl, refl)
    (subst (λ t. Step tables (Deleted t c.args.slot) (slice_set tables c.from.result now)) c.from.ensures
    ((one_changed tables c.from.result c.args.slot c.in-Some.rows.now now [] c.in-Some.ensures.item).1 c.mark_dead.ensures.step))
    refl
    (c.note.ensures.items ∙ ap (λ cs. cs ++ Deleted c.args.table c.args.slot ∷ []) c.room.ensures.unchanged)
    refl
    refl
    refl
    refl
    refl
    (shapes_kept tables c.from.result c.in-Some.rows.now now c.in-Some.ensures.item (ap (λ (h : TableValue). h.key) (c.mark_dead.ensures.step).is) (ap (λ (h : TableValue). h.limit) (c.mark_dead.ensures.step).is))
    (all_set tables c.from.result now c.rows_are_keyed-2.ensures))
