-- A database before the first execution.
use Rattle.std.proofs.Common.{◌≡◌, ℕ, zero, suc, ◌-◌, ◌*◌, ◌/◌, ◌<◌, nat_lt, nat_le, ◌&&◌, true, cond, drop, List, [], ◌∷◌, map, length, replicate, refl, sym, ap, subst, ◌∙◌, arith}
use Rattle.std.specs.List.{AllByRecursion, list_all}
use Rattle.std.specs.FinMap as finite
use Rattle.std.proofs.lemmas.Bool.{leb-true}
use Rattle.std.proofs.lemmas.Bool.Decides.{nat_tests}
use Rattle.std.proofs.lemmas.List.{nil_from_length}
use Rattle.ss_value.specs.Order.{row_cmp}
use Rattle.ss_value.specs.Rows.{Row}
use Rattle.ss_model.specs.declared.catalog.TableDef.{TableDef}
use Rattle.ss_model.specs.declared.catalog.Catalog.{Catalog}
use Rattle.ss_model.specs.Accepted.{Accepted}
use Rattle.ss_model.specs.CatalogForm.{has_window_sizes}
use Rattle.ss_model.specs.Contents.{Table, Window}
use Rattle.ss_lemmas.proofs.Bools.{first_of_two, second_of_two}
use Rattle.ss_table.specs.Keyed.{AreKeyed, StandsAtKey, SlotsDiffer}
use Rattle.ss_table.specs.TableValue.{TableValue}
use Rattle.ss_undo.proofs.CallerLemmas.{hold_at_first}
use Rattle.ss_undo.specs.Holding.{HasNone}
use Rattle.ss_undo.specs.ResultsFrom.{AreCommitted}
use Rattle.ss_undo.specs.Indexed.{AreIndexed, columns_in, columns_of}
use Rattle.ss_model.specs.declared.catalog.WindowDef.{WindowDef}
use Rattle.ss_window.specs.Slides.{first_kept}
use Rattle.ss_window.specs.WindowValue.{empty_window, commit, WindowInvariant}
use Rattle.ss_undo.specs.Windows.{AreCommittedWindows}
use Rattle.ss_shard.specs.Contents.{rows_by_key, tables_of, windows_of}
use Rattle.ss_shard.specs.Shards.{shape_for, shapes_of, frame_for, frames_of, AllKeyed, AllInvariant, HasTables, HasWindows}
use Rattle.ss_shard.specs.Databases.{empty_table, empty_tables, empty_group, empty_indexes, empty_windows, WindowIsSound}
use Rattle.ss_shard.specs.Parts.{dealing_of, dealing_for}
use Rattle.ss_shard.proofs.ByKey.{len_by_key}

lt_true : (a b : ℕ) → a < b → nat_lt a b ≡ true
lt_true a b h = grind (arith, nat_tests)

no_rows : rows_by_key finite.empty ≡ finite.empty
no_rows = finite.empty_of_len (rows_by_key finite.empty) (len_by_key finite.empty ∙ finite.len-empty row_cmp (ℕ × Row))

pub all_empty : (n part : ℕ) (defs : List TableDef) → tables_of (empty_tables n part defs) ≡ replicate (length defs) finite.empty
all_empty n part [] = refl
all_empty n part (d ∷ ds) = ap (λ (m : Table). m ∷ tables_of (empty_tables n part ds)) no_rows ∙ ap (λ ms. finite.empty ∷ ms) (all_empty n part ds)

pub all_final : (n part : ℕ) (defs : List TableDef) → AreCommitted (empty_tables n part defs)
all_final n part [] = tt
all_final n part (d ∷ ds) = (refl, all_final n part ds)

-- nothing in a table
pub no_entries : finite.entries (finite.empty {K = Row} {X = ℕ × Row} {R = row_cmp}) ≡ []
no_entries = nil_from_length (finite.entries (finite.empty {K = Row} {X = ℕ × Row} {R = row_cmp})) (sym (finite.len-entries finite.empty) ∙ finite.len-empty row_cmp (ℕ × Row))

pub no_row_entries : finite.entries (finite.empty {K = Row} {X = Row} {R = row_cmp}) ≡ []
no_row_entries = nil_from_length (finite.entries (finite.empty {K = Row} {X = Row} {R = row_cmp})) (sym (finite.len-entries finite.empty) ∙ finite.len-empty row_cmp Row)

nothing_keyed : (n part : ℕ) (d : TableDef) → AreKeyed (empty_table n part d)
nothing_keyed n part d = record {
  keyed = subst (λ es. AllByRecursion (StandsAtKey d.key) es) (sym no_entries) tt;
  apart = subst SlotsDiffer (sym no_entries) tt;
}

all_shapes : (n part : ℕ) (defs : List TableDef) → shapes_of (empty_tables n part defs) ≡ map shape_for defs
all_shapes n part [] = refl
all_shapes n part (d ∷ ds) = ap (λ shapes. shape_for d ∷ shapes) (all_shapes n part ds)

all_keyed : (n part : ℕ) (defs : List TableDef) → AllKeyed (empty_tables n part defs)
all_keyed n part [] = tt
all_keyed n part (d ∷ ds) = (nothing_keyed n part d, all_keyed n part ds)

pub has_tables : (n part : ℕ) (catalog : Catalog) → HasTables catalog (empty_tables n part catalog.tables)
has_tables n part catalog = record { shapes = all_shapes n part catalog.tables; keyed = all_keyed n part catalog.tables }

pub all_dealt : (n part : ℕ) (defs : List TableDef) → map dealing_of (empty_tables n part defs) ≡ map (dealing_for n (part ∷ [])) defs
all_dealt n part [] = refl
all_dealt n part (d ∷ ds) = ap (λ rest. dealing_for n (part ∷ []) d ∷ rest) (all_dealt n part ds)

-- ---- no index has a pair

columns_empty : (part : ℕ) (listed : List (List ℕ)) → columns_in (empty_group part listed) ≡ listed
columns_empty part [] = refl
columns_empty part (c ∷ cs) = ap (λ rest. c ∷ rest) (columns_empty part cs)

pub all_columns : (part : ℕ) (defs : List TableDef) → columns_of (empty_indexes part defs) ≡ map (λ (d : TableDef). d.indexes) defs
all_columns part [] = refl
all_columns part (d ∷ ds) = (λ i. columns_empty part d.indexes i ∷ all_columns part ds i)

no_pair : (part : ℕ) (listed : List (List ℕ)) → AllByRecursion (HasNone (part ∷ [])) (empty_group part listed)
no_pair part [] = tt
no_pair part (c ∷ cs) = ((refl, refl), no_pair part cs)

-- beside tables without a row, of one part, whatever else they are
module _ (part : ℕ) (made : TableDef → TableValue) (live : (d : TableDef) → (made d).live ≡ finite.empty) (dead : (d : TableDef) → (made d).dead ≡ finite.empty) (parts : (d : TableDef) → (made d).parts ≡ part ∷ []) where
  pub all_indexed : (defs : List TableDef) → AreIndexed (map made defs) [] (empty_indexes part defs)
  all_indexed [] t h group there has = cc
  all_indexed (d ∷ ds) zero h group there has =
      let table : made d ≡ h = cc in
      let listed : empty_group part d.indexes ≡ group = cc in
      hold_at_first h group (ap (λ (x : TableValue). x.live) (sym table) ∙ live d) (ap (λ (x : TableValue). x.dead) (sym table) ∙ dead d)
      (subst (AllByRecursion (HasNone h.parts)) listed
      (subst (λ ps. AllByRecursion (HasNone ps) (empty_group part d.indexes)) (sym (parts d) ∙ ap (λ (x : TableValue). x.parts) table) (no_pair part d.indexes)))
  all_indexed (d ∷ ds) (suc t) h group there has = all_indexed ds t h group there has

-- ---- windows

empty_sound : (d : WindowDef) → WindowIsSound d → WindowInvariant (empty_window d.unit d.size d.slide)
empty_sound d s = record { moves = s.0; within = s.1; bounded = omega arith; recent = omega arith; given_up = nothing; countable = omega arith }
  where
    nothing : 0 ≡ first_kept d.size d.slide (0 - 0)
    nothing = let less : 0 < d.size = omega arith in sym (ap (λ b. cond b 0 ((0 - d.size) / d.slide * d.slide)) (lt_true 0 d.size less))

empty_frames : (defs : List WindowDef) → frames_of (empty_windows defs) ≡ map frame_for defs
empty_frames [] = refl
empty_frames (d ∷ ds) = ap (λ frames. frame_for d ∷ frames) (empty_frames ds)

empty_held : (defs : List WindowDef) → AllByRecursion WindowIsSound defs → AllInvariant (empty_windows defs)
empty_held [] s = tt
empty_held (d ∷ ds) s = (empty_sound d s.0, empty_held ds s.1)

pub has_windows : (catalog : Catalog) → AllByRecursion WindowIsSound catalog.windows → HasWindows catalog (empty_windows catalog.windows)
has_windows catalog s = record { frames = empty_frames catalog.windows; held = empty_held catalog.windows s }

pub none_staged : (defs : List WindowDef) → AllByRecursion WindowIsSound defs → AreCommittedWindows (empty_windows defs)
none_staged [] s = tt
none_staged (d ∷ ds) s = (one d s.0, none_staged ds s.1)
  where
    one : (d : WindowDef) → WindowIsSound d → commit (empty_window d.unit d.size d.slide) ≡ empty_window d.unit d.size d.slide
    one d s =
        let e = (empty_sound d s).given_up in
        let none : first_kept d.size d.slide 0 ≡ 0 = sym e in
        λ i. record (empty_window d.unit d.size d.slide) { gone = none i; kept = drop (none i - 0) []; fresh = 0 }

pub no_units : (defs : List WindowDef) → windows_of (empty_windows defs) ≡ replicate (length defs) []
no_units [] = refl
no_units (d ∷ ds) = ap (λ ws. [] ∷ ws) (no_units ds)

pub no_windows : (defs : List WindowDef) → replicate (length defs) [] ≡ map {A = WindowDef} {B = Window} (λ d. []) defs
no_windows [] = refl
no_windows (d ∷ ds) = ap (λ ws. [] ∷ ws) (no_windows ds)

-- the windows of an accepted catalogue are sound
all_sound : (ds : List WindowDef) → list_all (λ d. nat_le 1 d.slide && nat_le d.slide d.size && nat_le d.size 65536) ds ≡ true → AllByRecursion WindowIsSound ds
all_sound [] h = tt
all_sound (d ∷ ds) h =
    let sizes = first_of_two _ _ (first_of_two _ _ h) in
    ((leb-true 1 d.slide (first_of_two (nat_le 1 d.slide) (nat_le d.slide d.size) sizes), leb-true d.slide d.size (second_of_two (nat_le 1 d.slide) (nat_le d.slide d.size) sizes)), all_sound ds (second_of_two _ _ h))

pub sound_windows : (catalog : Catalog) → Accepted catalog → AllByRecursion WindowIsSound catalog.windows
sound_windows catalog accepted = all_sound catalog.windows (second_of_two _ (has_window_sizes catalog) (first_of_two _ _ (first_of_two _ _ (first_of_two _ _ accepted.form))))
