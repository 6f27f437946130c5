-- One change of a shard, noted.
use Rattle.std.proofs.Common.{◌≡◌, ℕ, Bool, true, false, cond, List, [], ◌∷◌, ◌++◌, refl, sym, ap, subst, ◌∙◌, Option, Some, slice_get, slice_set}
use Rattle.std.specs.Prelude.{IsSomeAnd}
use Rattle.std.specs.List.{AllByRecursion}
use Rattle.std.specs.Ordering.{eq_by_cmp}
use Rattle.std.specs.FinMap as finite
use Rattle.std.specs.FinMap.Entries as entries
use Rattle.ss_value.specs.Rows.{Row}
use Rattle.ss_value.specs.Order.{row_cmp}
use Rattle.ss_value.specs.ValueOrder.{row_cmp_total, row_cmp-IsAntisymmetric}
use Rattle.ss_value.proofs.CallerLemmas.{same_row}
use Rattle.ss_table.specs.TableValue.{TableValue, LiveRows, key_of, row_at, replace}
use Rattle.ss_table.specs.Keyed.{SlotsDiffer, AreKeyed}
use Rattle.ss_table.specs.Steps.{WasDeleted, WasReplaced}
use Rattle.ss_table.proofs.CallerLemmas.{get_inserted}
use Rattle.ss_undo.specs.declared.change.Change.{Change}
use Rattle.ss_undo.specs.ResultsFrom.{Step, ResultsFrom}
use Rattle.ss_undo.proofs.CallerLemmas.{came_more, windows_more}
use Rattle.ss_shard.specs.ShardValue.{ShardValue}
use Rattle.ss_shard.specs.Sources.{SameNumbers}
use Rattle.ss_shard.specs.Rows.{HasKeyOf, StandsIn, RowPut, RowTaken}
use Rattle.ss_window.specs.WindowValue.{WindowValue, stage}
use Rattle.ss_undo.specs.Windows.{WindowStep, WindowsResultFrom}
use Rattle.ss_shard.specs.Shards.{shapes_of, frames_of, AllKeyed, AllInvariant, Changed}

-- a change that is made and noted
pub noted_both : (old new : ShardValue) (c : Change) → (new.bodies ≡ old.bodies) × (new.coming ≡ old.coming) → Step old.tables c new.tables → WindowStep old.windows c new.windows → new.changes ≡ old.changes ++ c ∷ [] → new.number ≡ old.number → new.cursors ≡ old.cursors → new.sources ≡ old.sources → new.columns ≡ old.columns
    → shapes_of new.tables ≡ shapes_of old.tables → (AllKeyed old.tables → AllKeyed new.tables) → frames_of new.windows ≡ frames_of old.windows → (AllInvariant old.windows → AllInvariant new.windows) → Changed old new
noted_both old new c bodies step stage items number cursors sources columns shapes keyed frames held = record {
  columns = columns;
  bodies = bodies;
  number = number;
  cursors = cursors;
  sources = sources;
  shapes = shapes;
  keyed = keyed;
  frames = frames;
  held = held;
  back = λ before can. record {
    number = number ∙ can.number;
    columns = columns ∙ can.columns;
    cursors = cursors ∙ can.cursors;
    sources = subst (SameNumbers before.sources) (sym sources) can.sources;
    bodies = bodies.0 ∙ can.bodies;
    none_coming = can.none_coming;
    final = can.final;
    came = subst (λ cs. ResultsFrom before.tables cs new.tables) (sym items) (came_more before.tables old.tables new.tables old.changes c can.came step);
    committed = can.committed;
    staged = subst (λ cs. WindowsResultFrom before.windows cs new.windows) (sym items) (windows_more before.windows old.windows new.windows old.changes c can.staged stage);
  };
}

-- a change of a row
pub noted : (old new : ShardValue) (c : Change) → (new.bodies ≡ old.bodies) × (new.coming ≡ old.coming) → Step old.tables c new.tables → WindowStep old.windows c new.windows → new.changes ≡ old.changes ++ c ∷ [] → new.number ≡ old.number → new.cursors ≡ old.cursors → new.sources ≡ old.sources → new.columns ≡ old.columns → new.windows ≡ old.windows
    → shapes_of new.tables ≡ shapes_of old.tables → (AllKeyed old.tables → AllKeyed new.tables) → Changed old new
noted old new c bodies step stage items number cursors sources columns windows shapes keyed =
    noted_both old new c bodies step stage items number cursors sources columns shapes keyed (ap frames_of windows) (λ h. subst (λ (ws : List WindowValue). AllInvariant ws) (sym windows) h)

-- room that is made, and nothing else
pub unnoted : (old new : ShardValue) → (new.bodies ≡ old.bodies) × (new.coming ≡ old.coming) → new.cursors ≡ old.cursors → new.sources ≡ old.sources → new.windows ≡ old.windows → new.tables ≡ old.tables → new.changes ≡ old.changes → new.number ≡ old.number → new.columns ≡ old.columns → Changed old new
unnoted old new bodies cursors sources windows tables items number columns = record {
  columns = columns;
  bodies = bodies;
  number = number;
  cursors = cursors;
  sources = sources;
  shapes = ap shapes_of tables;
  keyed = λ h. subst (λ (tables : List TableValue). AllKeyed tables) (sym tables) h;
  frames = ap frames_of windows;
  held = λ h. subst (λ (ws : List WindowValue). AllInvariant ws) (sym windows) h;
  back = λ before can. record {
    number = number ∙ can.number;
    columns = columns ∙ can.columns;
    cursors = cursors ∙ can.cursors;
    sources = subst (SameNumbers before.sources) (sym sources) can.sources;
    bodies = bodies.0 ∙ can.bodies;
    none_coming = can.none_coming;
    final = can.final;
    came = subst (λ cs. ResultsFrom before.tables cs new.tables) (sym items) (subst (ResultsFrom before.tables old.changes) (sym tables) can.came);
    committed = can.committed;
    staged = subst (λ cs. WindowsResultFrom before.windows cs new.windows) (sym items) (subst (WindowsResultFrom before.windows old.changes) (sym windows) can.staged);
  };
}

-- ---- a slot has one key

module _ (P : ℕ × Row → Type 0) where
  first_so : (b : Bool) (d : Row × (ℕ × Row)) (rest : Option (ℕ × Row)) (v : ℕ × Row) → P d.1 → (rest ≡ Some v → P v) → cond b (Some d.1) rest ≡ Some v → P v
  first_so true d rest v p h e = subst P (let r : d.1 ≡ v = cc in r) p
  first_so false d rest v p h e = h e

  found_so : (q : Row) (es : List (Row × (ℕ × Row))) (v : ℕ × Row) → AllByRecursion (λ d. P d.1) es → entries.find row_cmp q es ≡ Some v → P v
  found_so q [] v h e = cc
  found_so q (d ∷ es) v h e = first_so (eq_by_cmp row_cmp q d.0) d (entries.find row_cmp q es) v h.0 (found_so q es v h.1) e

one_key : (p q : Row) (es : List (Row × (ℕ × Row))) (v w : ℕ × Row) → SlotsDiffer es → entries.find row_cmp p es ≡ Some v → entries.find row_cmp q es ≡ Some w → v.0 ≡ w.0 → p ≡ q
one_key p q [] v w h e f same = cc
one_key p q (d ∷ es) v w h e f same = by (one_key p q es v w h.1) (eq_by_cmp row_cmp p d.0) refl (eq_by_cmp row_cmp q d.0) refl e f
  where
    by : (entries.find row_cmp p es ≡ Some v → entries.find row_cmp q es ≡ Some w → v.0 ≡ w.0 → p ≡ q) → (a : Bool) → eq_by_cmp row_cmp p d.0 ≡ a → (b : Bool) → eq_by_cmp row_cmp q d.0 ≡ b → cond a (Some d.1) (entries.find row_cmp p es) ≡ Some v → cond b (Some d.1) (entries.find row_cmp q es) ≡ Some w → p ≡ q
    by rest true s true t i j = same_row p d.0 s ∙ sym (same_row q d.0 t)
    by rest true s false t i j = absurd (found_so (λ x. x.0 ≡ d.1.0 → ⊥) q es w h.0 j (sym same ∙ sym (ap (λ (x : ℕ × Row). x.0) (let r : d.1 ≡ v = cc in r))))
    by rest false s true t i j = absurd (found_so (λ x. x.0 ≡ d.1.0 → ⊥) p es v h.0 i (same ∙ sym (ap (λ (x : ℕ × Row). x.0) (let r : d.1 ≡ w = cc in r))))
    by rest false s false t i j = rest i j same

pub slot_key : (live : LiveRows) (p q : Row) (slot : ℕ) (a b : Row) → SlotsDiffer (finite.entries live) → finite.get live p ≡ Some (slot, a) → finite.get live q ≡ Some (slot, b) → p ≡ q
slot_key live p q slot a b h e f = one_key p q (finite.entries live) (slot, a) (slot, b) h (sym (finite.get-entries live p) ∙ e) (sym (finite.get-entries live q) ∙ f) refl

pub at_some : {A : Type 0} (o : Option A) (x : A) (P : A → Type 0) → o ≡ Some x → IsSomeAnd o P → P x
at_some o x P e h = subst (λ o. IsSomeAnd o P) e h

-- of a table that is found by a number
pub at_table : (tables : List TableValue) (t u : ℕ) (was : TableValue) (P : TableValue → Type 0) → u ≡ t → slice_get tables u ≡ Some was → IsSomeAnd (slice_get tables t) P → P was
at_table tables t u was P same here h = at_some (slice_get tables t) was P (ap (slice_get tables) (sym same) ∙ here) h

-- a row that has the key of the one in its slot
pub alike : (tables : List TableValue) (t u slot : ℕ) (was : TableValue) (before row : Row) → u ≡ t → slice_get tables u ≡ Some was → row_at was.live slot ≡ Some before → HasKeyOf tables t slot row → key_of was.key row ≡ key_of was.key before
alike tables t u slot was before row same here at has =
    at_some (row_at was.live slot) before (λ old. key_of was.key row ≡ key_of was.key old) at
    (at_table tables t u was (λ h. IsSomeAnd (row_at h.live slot) (λ old. key_of h.key row ≡ key_of h.key old)) same here has)

-- the row that was put in place of another
pub row_is : (was now : TableValue) (slot : ℕ) (before row : Row) (w : WasReplaced was now slot before) → now ≡ replace was slot row → key_of was.key row ≡ key_of was.key before → w.row ≡ row
row_is was now slot before row w is alike =
    let k = key_of was.key w.row in
    let one : finite.get now.live k ≡ Some (slot, w.row) = ap (λ (h : TableValue). finite.get h.live k) w.is ∙ get_inserted row_cmp_total row_cmp-IsAntisymmetric was.live k (slot, w.row) in
    let two : finite.get now.live k ≡ Some (slot, row) =
    ap (λ (h : TableValue). finite.get h.live k) is
    ∙ ap (λ q. finite.get (finite.insert was.live q (slot, row)) k) (alike ∙ w.same_key)
    ∙ get_inserted row_cmp_total row_cmp-IsAntisymmetric was.live k (slot, row) in
    let p : ℕ × Row = (slot, w.row) in
    let q : ℕ × Row = (slot, row) in
    let same : p ≡ q = (let both = sym one ∙ two in cc) in
    ap (λ (x : ℕ × Row). x.1) same

-- ---- what the calls did

module _ (tables : List TableValue) (t slot : ℕ) (was now : TableValue) (here : slice_get tables t ≡ Some was) (keyed : AreKeyed was) where
  pub taken : WasDeleted was now slot → (key row : Row) → StandsIn tables t key slot row → RowTaken tables (slice_set tables t now) t key
  taken w key row stands =
      let same : key_of was.key w.row ≡ key = slot_key was.live (key_of was.key w.row) key slot w.row row keyed.apart w.there (at_some (slice_get tables t) was (λ h. finite.get h.live key ≡ Some (slot, row)) here stands) in
      record {
        was = was;
        now = now;
        here = here;
        is = refl;
        key = ap (λ (h : TableValue). h.key) w.is;
        limit = ap (λ (h : TableValue). h.limit) w.is;
        live = ap (λ (h : TableValue). h.live) w.is ∙ ap (λ k. finite.remove was.live k) same;
      }

  pub put : (old row : Row) → WasReplaced was now slot old → now ≡ replace was slot row → key_of was.key row ≡ key_of was.key old → (key other : Row) → StandsIn tables t key slot other → RowPut tables (slice_set tables t now) t key slot row
  put old row w is alike key other stands =
      let same : key_of was.key old ≡ key = slot_key was.live (key_of was.key old) key slot old other keyed.apart w.before (at_some (slice_get tables t) was (λ h. finite.get h.live key ≡ Some (slot, other)) here stands) in
      record {
        was = was;
        now = now;
        here = here;
        is = refl;
        key = ap (λ (h : TableValue). h.key) is;
        limit = ap (λ (h : TableValue). h.limit) is;
        live = ap (λ (h : TableValue). h.live) is ∙ ap (λ k. finite.insert was.live k (slot, row)) (alike ∙ same);
      }
