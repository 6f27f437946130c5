use Rattle.std.proofs.Common.{refl, ◌≡◌, ◌≤◌, ◌<◌, ◌^◌, [], ◌∷◌, ◌++◌, subst, sym, ap, ◌∙◌, slice_set, Ok, Err, arith}
use Rattle.ss_model.specs.declared.entry.Reason.TheVariants.{WindowFull}
use Rattle.ss_model.specs.declared.run_error.RunError.TheVariants.{Abort}
use Rattle.ss_window.specs.WindowValue.{unit_count}
use Rattle.ss_undo.specs.declared.change.Change.TheVariants.{Staged}
use Rattle.ss_undo.specs.Indexed.{AreIndexed, columns_of}
use Rattle.ss_undo.specs.Windows.{WindowStep}
use Rattle.ss_undo.proofs.CallerLemmas.{noted_stayed, set_same, unit_noted}
use Rattle.ss_shard.specs.Contents.{contents_with}
use Rattle.ss_shard.specs.ShardValue.{ShardValue}
use Rattle.ss_shard.specs.Shards.{frame_of, Changed}
use Rattle.ss_shard.specs.Changes.{UnitStaged, StagingStops}
use Rattle.ss_shard.specs.Windows.{unit_added}
use Rattle.ss_shard.proofs.Shapes.{frames_kept, held_set}
use Rattle.ss_shard.proofs.Changing.{noted_both, unnoted}
use Rattle.ss_shard.proofs.Staging.{unit_more, window_full}
use Rattle.ss_shard.proofs.shard.Shard.stage_unit.Goals as goal

pub invariant_of-self-2 : goal.invariant_of-self-2
invariant_of-self-2 c =
    let inside = c.self.inside in
    let items = c.note.ensures.items ∙ ap (λ cs. cs ++ Staged c.args.window ∷ []) c.room.ensures.unchanged in (
      subst (λ cs. AreIndexed inside.tables cs inside.indexes) (sym items) (unit_noted inside.tables inside.indexes c.args.window inside.undo.items c.self.invariant.0),
      noted_stayed (columns_of inside.indexes) (columns_of inside.indexes) inside.tables inside.tables inside.undo.items c.note.new.self.items (Staged c.args.window) refl items c.self.invariant.1 refl tt,
    )

pub returns-then-units-ge-WINDOW_UNITS-clause-stops : goal.returns-then-units-ge-WINDOW_UNITS-clause-stops
returns-then-units-ge-WINDOW_UNITS-clause-stops c =
    subst (λ (s : ShardValue). StagingStops s c.args.window c.args.unit (Abort (WindowFull c.args.window))) c.self.view_is (λ catalog has.
    let tables = c.self.inside.tables in
    let windows = c.self.inside.windows in
    let full : 2 ^ 62 ≤ unit_count c.in-Some.units.now = omega (arith, c.units.ensures, c.if-units-ge-WINDOW_UNITS.true) in
    subst (λ w. unit_added catalog w c.args.unit (contents_with tables windows) ≡ Err (WindowFull w)) c.from.ensures
    (window_full catalog tables windows has c.from.result c.in-Some.units.now c.in-Some.ensures.item c.args.unit full))

pub returns-then-units-ge-WINDOW_UNITS-clause-changed : goal.returns-then-units-ge-WINDOW_UNITS-clause-changed
returns-then-units-ge-WINDOW_UNITS-clause-changed c =
    let inside = c.self.inside in
    let old : ShardValue = record { number = inside.number; tables = inside.tables; changes = inside.undo.items; columns = columns_of inside.indexes; windows = inside.windows; cursors = inside.cursors; sources = inside.sources; bodies = inside.bodies; coming = inside.coming } in
    let new : ShardValue = record { number = inside.number; tables = inside.tables; changes = c.room.new.self.items; columns = columns_of inside.indexes; windows = slice_set inside.windows c.from.result c.in-Some.units.now; cursors = inside.cursors; sources = inside.sources; bodies = inside.bodies; coming = inside.coming } in
    subst (λ (s : ShardValue). Changed s new) c.self.view_is
    (unnoted old new (refl, refl) refl refl (set_same inside.windows c.from.result c.in-Some.units.now c.in-Some.ensures.item) refl c.room.ensures.unchanged refl refl)

pub returns-then-units-ge-WINDOW_UNITS-clause-err : goal.returns-then-units-ge-WINDOW_UNITS-clause-err
returns-then-units-ge-WINDOW_UNITS-clause-err c = set_same c.self.inside.windows c.from.result c.in-Some.units.now c.in-Some.ensures.item ∙ ap (λ (s : ShardValue). s.windows) c.self.view_is

pub returns-in-Err-clause-changed : goal.returns-in-Err-clause-changed
returns-in-Err-clause-changed c =
    let inside = c.self.inside in
    let old : ShardValue = record { number = inside.number; tables = inside.tables; changes = inside.undo.items; columns = columns_of inside.indexes; windows = inside.windows; cursors = inside.cursors; sources = inside.sources; bodies = inside.bodies; coming = inside.coming } in
    let new : ShardValue = record { number = inside.number; tables = inside.tables; changes = c.room.new.self.items; columns = columns_of inside.indexes; windows = slice_set inside.windows c.from.result c.stage.new.self; cursors = inside.cursors; sources = inside.sources; bodies = inside.bodies; coming = inside.coming } in
    subst (λ (s : ShardValue). Changed s new) c.self.view_is
    (unnoted old new (refl, refl) refl refl (ap (slice_set inside.windows c.from.result) c.in-Err.ensures.err.0 ∙ set_same inside.windows c.from.result c.in-Some.units.now c.in-Some.ensures.item) refl c.room.ensures.unchanged refl refl)

pub returns-in-Err-clause-err : goal.returns-in-Err-clause-err
returns-in-Err-clause-err c =
    let windows = c.self.inside.windows in
    ap (slice_set windows c.from.result) c.in-Err.ensures.err.0 ∙ set_same windows c.from.result c.in-Some.units.now c.in-Some.ensures.item ∙ ap (λ (s : ShardValue). s.windows) c.self.view_is

pub returns-clause-ok : goal.returns-clause-ok
returns-clause-ok c =
    let inside = c.self.inside in
    let new : ShardValue = record { number = inside.number; tables = inside.tables; changes = c.note.new.self.items; columns = columns_of inside.indexes; windows = slice_set inside.windows c.from.result c.stage.new.self; cursors = inside.cursors; sources = inside.sources; bodies = inside.bodies; coming = inside.coming } in
    subst (λ (s : ShardValue). UnitStaged s new c.args.window c.args.unit c.in-Ok.moved) c.self.view_is (λ catalog has.
    let tables = inside.tables in
    let windows = inside.windows in
    let was = c.in-Some.units.now in
    let less : unit_count was < 2 ^ 62 = omega (arith, c.units.ensures, c.if-units-ge-WINDOW_UNITS.false) in
    subst (λ w. unit_added catalog w c.args.unit (contents_with tables windows) ≡ Ok (c.in-Ok.moved, contents_with tables (slice_set windows c.from.result c.stage.new.self))) c.from.ensures
    (unit_more catalog tables windows has c.from.result was c.in-Some.ensures.item c.args.unit less
    ∙ (λ i. Ok (sym c.in-Ok.ensures.moved i, contents_with tables (slice_set windows c.from.result (sym c.in-Ok.ensures.ok i))))))

pub returns-clause-changed : goal.returns-clause-changed
returns-clause-changed c =
    let inside = c.self.inside in
    let windows = inside.windows in
    let was = c.in-Some.units.now in
    let old : ShardValue = record { number = inside.number; tables = inside.tables; changes = inside.undo.items; columns = columns_of inside.indexes; windows = inside.windows; cursors = inside.cursors; sources = inside.sources; bodies = inside.bodies; coming = inside.coming } in
    let new : ShardValue = record { number = inside.number; tables = inside.tables; changes = c.note.new.self.items; columns = columns_of inside.indexes; windows = slice_set inside.windows c.from.result c.stage.new.self; cursors = inside.cursors; sources = inside.sources; bodies = inside.bodies; coming = inside.coming } in
    subst (λ (s : ShardValue). Changed s new) c.self.view_is
    (noted_both old new (Staged c.args.window) (refl, refl) refl
    (subst (λ w. WindowStep windows (Staged w) (slice_set windows c.from.result c.stage.new.self)) c.from.ensures
    (record { old = was; unit = c.args.unit; here = c.in-Some.ensures.item; is = ap (slice_set windows c.from.result) c.in-Ok.ensures.ok }))
    (c.note.ensures.items ∙ ap (λ cs. cs ++ Staged c.args.window ∷ []) c.room.ensures.unchanged) refl refl refl refl refl (λ h. h)
    (frames_kept windows c.from.result was c.stage.new.self c.in-Some.ensures.item (ap frame_of c.in-Ok.ensures.ok))
    (held_set windows c.from.result c.stage.new.self c.invariant_holds-2.ensures))
