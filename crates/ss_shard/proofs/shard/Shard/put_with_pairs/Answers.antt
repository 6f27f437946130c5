use Rattle.std.proofs.Common.{refl, ◌≡◌, [], ◌∷◌, ◌++◌, subst, sym, ap, ◌∙◌, slice_set}
use Rattle.ss_value.specs.Rows.{Row}
use Rattle.ss_table.specs.TableValue.{TableValue, key_of}
use Rattle.ss_undo.specs.declared.change.Change.TheVariants.{Replaced}
use Rattle.ss_undo.specs.ResultsFrom.{Step}
use Rattle.ss_undo.specs.Indexed.{AreIndexed, columns_of, with_row_of}
use Rattle.ss_undo.proofs.CallerLemmas.{one_changed, replaced_indexed, columns_added, found_as, noted_stayed, reported_as}
use Rattle.ss_shard.specs.ShardValue.{ShardValue}
use Rattle.ss_shard.specs.Rows.{StandsIn, HasKeyOf, RowPut}
use Rattle.ss_shard.specs.Shards.{Changed}
use Rattle.ss_shard.proofs.Shapes.{shapes_kept, all_set}
use Rattle.ss_shard.proofs.Changing.{alike, noted, put, row_is}
use Rattle.ss_shard.proofs.shard.Shard.put_with_pairs.Goals as goal

-- the new row has the old one's key
same_key : (c : goal.After-note) → key_of c.in-Some.rows.now.key c.args.row ≡ key_of c.in-Some.rows.now.key c.replace-old.result
same_key c =
    alike c.self.inside.tables c.args.table c.from.result c.args.slot c.in-Some.rows.now c.replace-old.result c.args.row c.from.ensures c.in-Some.ensures.item c.replace-old.ensures.old
    (subst (λ (s : ShardValue). HasKeyOf s.tables c.args.table c.args.slot c.args.row) (sym c.self.view_is) c.requires)

pub invariant_of-self-2 : goal.invariant_of-self-2
invariant_of-self-2 c =
    let inside = c.self.inside in
    let t = c.args.table in
    let slot = c.args.slot in
    let rows = c.in-Some.rows.now in
    let now = c.replace-old.new.self in
    let old = c.replace-old.result in
    let step = c.replace-old.ensures.step in
    let tables = slice_set inside.tables c.from.result now in
    let items = c.note.ensures.items ∙ ap (λ cs. cs ++ Replaced t slot old ∷ []) c.room.ensures.unchanged in
    let pairs = c.in_ok-add_pairs.ensures.ok ∙ ap (λ row. with_row_of inside.indexes t row slot) (sym (row_is rows now slot old c.args.row step c.replace-old.ensures.new (same_key c))) in (
      subst (λ cs. AreIndexed tables cs c.add_pairs.new.indexes) (sym items)
          (reported_as inside.tables t c.from.result now now (inside.undo.items ++ Replaced t slot old ∷ []) _ c.add_pairs.new.indexes c.from.ensures refl pairs
          (replaced_indexed inside.tables inside.indexes t slot rows now (found_as inside.tables t c.from.result rows c.from.ensures c.in-Some.ensures.item) inside.undo.items c.self.invariant.0 old step)),
      noted_stayed (columns_of inside.indexes) (columns_of c.add_pairs.new.indexes) inside.tables tables inside.undo.items c.note.new.self.items (Replaced t slot old)
          (ap columns_of c.in_ok-add_pairs.ensures.ok ∙ columns_added inside.indexes t slot c.args.row) items c.self.invariant.1
          (subst (λ u. Step inside.tables (Replaced u slot old) tables) c.from.ensures ((one_changed inside.tables c.from.result slot rows now old c.in-Some.ensures.item).2 step)) tt,
    )

pub returns-clause-ok : goal.returns-clause-ok
returns-clause-ok c =
    let tables = c.self.inside.tables in
    let now = c.replace-old.new.self in
    subst (λ (s : ShardValue). (key other : Row) → StandsIn s.tables c.args.table key c.args.slot other → RowPut s.tables (slice_set tables c.from.result now) c.args.table key c.args.slot c.args.row) c.self.view_is
    (subst (λ t. (key other : Row) → StandsIn tables t key c.args.slot other → RowPut tables (slice_set tables c.from.result now) t key c.args.slot c.args.row) c.from.ensures
    (put tables c.from.result c.args.slot c.in-Some.rows.now now c.in-Some.ensures.item c.rows_are_keyed.ensures c.replace-old.result c.args.row c.replace-old.ensures.step c.replace-old.ensures.new (same_key c)))

pub returns-clause-changed : goal.returns-clause-changed
returns-clause-changed c =
    let inside = c.self.inside in
    let tables = inside.tables in
    let rows = c.in-Some.rows.now in
    let now = c.replace-old.new.self in
    let slot = c.args.slot in
    let step = c.replace-old.ensures.step in
    let old : ShardValue = record { number = inside.number; tables = inside.tables; changes = inside.undo.items; columns = columns_of inside.indexes; windows = inside.windows; cursors = inside.cursors; sources = inside.sources; bodies = inside.bodies; coming = inside.coming } in
    let new : ShardValue = record { number = inside.number; tables = slice_set tables c.from.result now; changes = c.note.new.self.items; columns = columns_of c.add_pairs.new.indexes; windows = inside.windows; cursors = inside.cursors; sources = inside.sources; bodies = inside.bodies; coming = inside.coming } in
    subst (λ (s : ShardValue). Changed s new) c.self.view_is
    (noted old new (Replaced c.args.table slot c.replace-old.result) (refl, refl)
    (subst (λ t. Step tables (Replaced t slot c.replace-old.result) (slice_set tables c.from.result now)) c.from.ensures ((one_changed tables c.from.result slot rows now c.replace-old.result c.in-Some.ensures.item).2 step))
    refl
    (c.note.ensures.items ∙ ap (λ cs. cs ++ Replaced c.args.table slot c.replace-old.result ∷ []) c.room.ensures.unchanged)
    refl
    refl
    refl
    (ap columns_of c.in_ok-add_pairs.ensures.ok ∙ columns_added inside.indexes c.args.table slot c.args.row)
    refl
    (shapes_kept tables c.from.result rows now c.in-Some.ensures.item (ap (λ (h : TableValue). h.key) step.is) (ap (λ (h : TableValue). h.limit) step.is))
    (all_set tables c.from.result now c.rows_are_keyed-2.ensures))
