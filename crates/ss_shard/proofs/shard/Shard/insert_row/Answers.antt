use Rattle.std.proofs.Common.{refl, ◌≡◌, List, [], ◌∷◌, ◌++◌, subst, sym, ap, ◌∙◌, slice_set, Ok}
use Rattle.ss_model.specs.Statements.{insert_row}
use Rattle.ss_model.specs.declared.run_error.RunError.{RunError}
use Rattle.ss_model.specs.Stops.{StopsAs}
use Rattle.ss_table.specs.TableValue.{TableValue, HasKey}
use Rattle.ss_undo.specs.declared.change.Change.{Change}
use Rattle.ss_undo.specs.declared.change.Change.TheVariants.{Inserted}
use Rattle.ss_undo.specs.Staying.{HaveStayed}
use Rattle.ss_undo.specs.ResultsFrom.{Step}
use Rattle.ss_undo.specs.Indexed.{AreIndexed, Group, columns_of}
use Rattle.ss_undo.proofs.CallerLemmas.{one_changed, set_same, inserted_indexed, columns_added, found_as, noted_stayed, reported_as}
use Rattle.ss_shard.specs.Contents.{contents_with}
use Rattle.ss_shard.specs.ShardValue.{ShardValue}
use Rattle.ss_shard.specs.Rows.{IsKeyed, refusal_of}
use Rattle.ss_shard.specs.Shards.{Changed}
use Rattle.ss_shard.specs.Changes.{RowInserted, InsertStops}
use Rattle.ss_shard.proofs.Shapes.{shapes_kept, all_set}
use Rattle.ss_shard.proofs.Changing.{noted, unnoted, at_table}
use Rattle.ss_shard.proofs.Inserting.{row_put, refused_so}
use Rattle.ss_shard.proofs.shard.Shard.insert_row.Goals as goal

pub insert_indexed-requires : goal.insert_indexed-requires
insert_indexed-requires c =
    at_table c.self.inside.tables c.args.table c.from.result c.in-Some.rows.now (λ h. HasKey h.key c.args.row) c.from.ensures c.in-Some.ensures.item
    (subst (λ (s : ShardValue). IsKeyed s.tables c.args.table c.args.row) (sym c.self.view_is) c.requires)

pub invariant_of-self-in-Err : goal.invariant_of-self-in-Err
invariant_of-self-in-Err c =
    let inside = c.self.inside in
    let same = ap (slice_set inside.tables c.from.result) c.in-Err.ensures.err ∙ set_same inside.tables c.from.result c.in-Some.rows.now c.in-Some.ensures.item in
    let Kept : List TableValue → List Change → List Group → Type 0 = λ tables items indexes. AreIndexed tables items indexes × HaveStayed (columns_of indexes) tables items in
    subst (λ (tables : List TableValue). Kept tables c.room.new.self.items c.insert_indexed.new.indexes) (sym same)
    (subst (λ (indexes : List Group). Kept inside.tables c.room.new.self.items indexes) (sym c.in-Err.ensures.unpaired) (subst (λ cs. Kept inside.tables cs inside.indexes) (sym c.room.ensures.unchanged) c.self.invariant))

pub invariant_of-self-2 : goal.invariant_of-self-2
invariant_of-self-2 c =
    let inside = c.self.inside in
    let t = c.args.table in
    let was = c.in-Some.rows.now in
    let now = c.insert_indexed.new.rows in
    let slot = c.in-Ok.slot in
    let step = c.in-Ok.ensures.step in
    let tables = slice_set inside.tables c.from.result now in
    let items = c.note.ensures.items ∙ ap (λ cs. cs ++ Inserted t slot ∷ []) c.room.ensures.unchanged in (
      subst (λ cs. AreIndexed tables cs c.insert_indexed.new.indexes) (sym items)
          (reported_as inside.tables t c.from.result now now (inside.undo.items ++ Inserted t slot ∷ []) _ c.insert_indexed.new.indexes c.from.ensures refl (c.in-Ok.ensures.pairs step)
          (inserted_indexed inside.tables inside.indexes t slot was now (found_as inside.tables t c.from.result was c.from.ensures c.in-Some.ensures.item) inside.undo.items c.self.invariant.0 step)),
      noted_stayed (columns_of inside.indexes) (columns_of c.insert_indexed.new.indexes) inside.tables tables inside.undo.items c.note.new.self.items (Inserted t slot)
          (ap columns_of (c.in-Ok.ensures.pairs step) ∙ columns_added inside.indexes t slot step.row) items c.self.invariant.1
          (subst (λ u. Step inside.tables (Inserted u slot) tables) c.from.ensures ((one_changed inside.tables c.from.result slot was now [] c.in-Some.ensures.item).0 step)) tt,
    )

pub returns-in-Err-clause-stops : goal.returns-in-Err-clause-stops
returns-in-Err-clause-stops c =
    let was = c.in-Some.rows.now in
    subst (λ (s : ShardValue). InsertStops s c.args.table c.args.row c.refusal_of.result) c.self.view_is (λ catalog has.
    let tables = c.self.inside.tables in
    let windows = c.self.inside.windows in
    subst (λ (stop : RunError). StopsAs (insert_row catalog c.args.table c.args.row (contents_with tables windows)) stop) (sym c.refusal_of.ensures)
    (subst (λ t. StopsAs (insert_row catalog t c.args.row (contents_with tables windows)) (refusal_of t c.in-Err.error)) c.from.ensures
    (refused_so catalog windows tables c.from.result c.args.row was c.in-Some.ensures.item has
    (at_table tables c.args.table c.from.result was (λ h. HasKey h.key c.args.row) c.from.ensures c.in-Some.ensures.item (subst (λ (s : ShardValue). IsKeyed s.tables c.args.table c.args.row) (sym c.self.view_is) c.requires))
    c.in-Err.error c.in-Err.ensures.refused)))

pub returns-in-Err-clause-err : goal.returns-in-Err-clause-err
returns-in-Err-clause-err c =
    let tables = c.self.inside.tables in
    ap (slice_set tables c.from.result) c.in-Err.ensures.err ∙ set_same tables c.from.result c.in-Some.rows.now c.in-Some.ensures.item ∙ ap (λ (s : ShardValue). s.tables) c.self.view_is

pub returns-in-Err-clause-changed : goal.returns-in-Err-clause-changed
returns-in-Err-clause-changed c =
    let inside = c.self.inside in
    let old : ShardValue = record { number = inside.number; tables = inside.tables; changes = inside.undo.items; columns = columns_of inside.indexes; windows = inside.windows; cursors = inside.cursors; sources = inside.sources; bodies = inside.bodies; coming = inside.coming } in
    let new : ShardValue = record { number = inside.number; tables = slice_set inside.tables c.from.result c.insert_indexed.new.rows; changes = c.room.new.self.items; columns = columns_of c.insert_indexed.new.indexes; windows = inside.windows; cursors = inside.cursors; sources = inside.sources; bodies = inside.bodies; coming = inside.coming } in
    subst (λ (s : ShardValue). Changed s new) c.self.view_is
    (unnoted old new (refl, refl) refl refl refl (ap (slice_set inside.tables c.from.result) c.in-Err.ensures.err ∙ set_same inside.tables c.from.result c.in-Some.rows.now c.in-Some.ensures.item) c.room.ensures.unchanged refl
    (ap columns_of c.in-Err.ensures.unpaired))

pub returns-clause-ok : goal.returns-clause-ok
returns-clause-ok c =
    let inside = c.self.inside in
    let was = c.in-Some.rows.now in
    let now = c.insert_indexed.new.rows in
    let new : ShardValue = record { number = inside.number; tables = slice_set inside.tables c.from.result now; changes = c.note.new.self.items; columns = columns_of c.insert_indexed.new.indexes; windows = inside.windows; cursors = inside.cursors; sources = inside.sources; bodies = inside.bodies; coming = inside.coming } in
    subst (λ (s : ShardValue). RowInserted s new c.args.table c.args.row) c.self.view_is (λ catalog has.
    let tables = inside.tables in
    let windows = inside.windows in
    subst (λ t. insert_row catalog t c.args.row (contents_with tables windows) ≡ Ok (contents_with (slice_set tables c.from.result now) windows)) c.from.ensures
    (row_put catalog windows tables c.from.result c.args.row was c.in-Some.ensures.item has
    (at_table tables c.args.table c.from.result was (λ h. HasKey h.key c.args.row) c.from.ensures c.in-Some.ensures.item (subst (λ (s : ShardValue). IsKeyed s.tables c.args.table c.args.row) (sym c.self.view_is) c.requires))
    now c.in-Ok.slot c.in-Ok.ensures.ok c.in-Ok.ensures.admitted))

pub returns-clause-changed : goal.returns-clause-changed
returns-clause-changed c =
    let inside = c.self.inside in
    let tables = inside.tables in
    let was = c.in-Some.rows.now in
    let now = c.insert_indexed.new.rows in
    let slot = c.in-Ok.slot in
    let step = c.in-Ok.ensures.step in
    let old : ShardValue = record { number = inside.number; tables = inside.tables; changes = inside.undo.items; columns = columns_of inside.indexes; windows = inside.windows; cursors = inside.cursors; sources = inside.sources; bodies = inside.bodies; coming = inside.coming } in
    let new : ShardValue = record { number = inside.number; tables = slice_set tables c.from.result now; changes = c.note.new.self.items; columns = columns_of c.insert_indexed.new.indexes; windows = inside.windows; cursors = inside.cursors; sources = inside.sources; bodies = inside.bodies; coming = inside.coming } in
    subst (λ (s : ShardValue). Changed s new) c.self.view_is
    (noted old new (Inserted c.args.table slot) (refl, refl)
    (subst (λ t. Step tables (Inserted t slot) (slice_set tables c.from.result now)) c.from.ensures ((one_changed tables c.from.result slot was now [] c.in-Some.ensures.item).0 step))
    refl
    (c.note.ensures.items ∙ ap (λ cs. cs ++ Inserted c.args.table slot ∷ []) c.room.ensures.unchanged)
    refl
    refl
    refl
    (ap columns_of (c.in-Ok.ensures.pairs step) ∙ columns_added inside.indexes c.args.table slot step.row)
    refl
    (shapes_kept tables c.from.result was now c.in-Some.ensures.item (ap (λ (h : TableValue). h.key) step.is) (ap (λ (h : TableValue). h.limit) step.is))
    (all_set tables c.from.result now c.rows_are_keyed.ensures))
