-- What is kept of a whole database has the form of an image.
use Rattle.std.proofs.Common.{◌≡◌, ◌∙◌, ⊎_elim, ℕ, ◌+◌, ◌-◌, ◌*◌, ◌/◌, ◌^◌, ◌<◌, ◌≤◌, ◌&&◌, nat_le, nat_lt, min, List, [], ◌∷◌, length, get_or, drop, slice_get, Bool, true, false, cond, refl, sym, ap, subst, arith, All, Some, length-drop}
use Rattle.std.specs.List.{fold, list_all, range_with_len}
use Rattle.std.specs.Ordering.{nat_cmp}
use Rattle.std.specs.Cmp.Lexicographic.{slice_cmp, nat_list_cmp_total}
use Rattle.std.specs.FinMap as finmap
use Rattle.std.specs.FinMap.{nat_cmp-IsAntisymmetric, slice_cmp-IsAntisymmetric}
use Rattle.std.proofs.lemmas.Bool.{leb-true, and_parts, ltb-true}
use Rattle.std.proofs.lemmas.List.Elements.{All-cons, All-nil, All-from_recursion}
use Rattle.std.proofs.lemmas.List.FromFn.{length-range_with_len, get_or-range_with_len}
use Rattle.std.proofs.lemmas.Option.{slice_get_cases, slice_get_within, get_or_from_slice_get}
use Rattle.std.proofs.Math.Nat.{div-mul-le_self}
use Rattle.std.proofs.lemmas.Nat.{div-add-mod', mod_below}
use Rattle.std.specs.Prelude.{option_map, unwrap_or}
use Rattle.ss_lemmas.proofs.Bools.{at_index, first_of_two, second_of_two}
use Rattle.ss_lemmas.proofs.Numbers.{eqb_is}
use Rattle.ss_value.specs.Fit.{fits_schema}
use Rattle.ss_value.specs.Rows.{Row, Rows}
use Rattle.ss_value.specs.declared.schema.Column.{Column}
use Rattle.ss_model.specs.declared.catalog.Catalog.{Catalog}
use Rattle.ss_model.specs.declared.catalog.StreamDef.{StreamDef}
use Rattle.ss_model.specs.declared.catalog.TableDef.{TableDef}
use Rattle.ss_model.specs.declared.catalog.WindowDef.{WindowDef}
use Rattle.ss_model.specs.Accepted.{Accepted}
use Rattle.ss_model.specs.CatalogForm.{counts_within_limits, has_window_sizes}
use Rattle.ss_model.specs.Contents.{Window, default_window, first_kept, kept_units, table_at, window_def, window_units}
use Rattle.ss_model.specs.Database.{Database, batch_count, is_call, is_inner_stream, stream_batches, stream_schema}
use Rattle.ss_model.specs.Orders.{procedure_takes}
use Rattle.ss_model.specs.Settling.{kept, least_count}
use Rattle.ss_model.specs.WholeDatabase.{WholeDatabase, WholeWindow, HadAtMost, batch_fits, has_unit_size, unit_fits}
use Rattle.ss_model.proofs.CallerLemmas.{limits_of}
use Rattle.ss_model_kept.proofs.CallerLemmas.{get_or-map_index, length-map_index}
use Rattle.ss_model_laws.proofs.CallerLemmas.{named, of_entries}
use Rattle.ss_record.specs.Bounds.{IsShort, IsTypedRow}
use Rattle.ss_standing.specs.FitsImage.{FitsWindow, FitsStream, FitBodies, FitsImage}
use Rattle.ss_standing.specs.ImageForm.{is_unit, least_of, most_of, no_batches}
use Rattle.ss_standing.proofs.ImageTells.{none_there}
use Rattle.ss_standing.proofs.Chains.{are_for}
use Rattle.ss_standing.proofs.Places.{least_within}
use Rattle.ss_standing.proofs.ImageParts.{AreRowsOf, IsTableOf, IsWindowOf, IsStreamAt, IsNext, IsBodyOf, all_values, of_look_ups}
use Rattle.ss_standing.proofs.KeptExact.{IsSourcesAt, AreBodies, HasForm}
use Rattle.ss_standing.proofs.Counted.{AllGoTogether, counts_together}
use Rattle.ss_standing.proofs.Formed.{unit_size}

-- ---- rows

all_listed : {A : Type 0} (test : A → Bool) (xs : List A) → list_all test xs ≡ true → All (λ x. test x ≡ true) xs
all_listed test [] all = All-nil (λ x. test x ≡ true)
all_listed test (x ∷ xs) all =
    let parts = and_parts (test x) (list_all test xs) all in
    All-cons (λ x. test x ≡ true) x xs parts.0 (all_listed test xs parts.1)

row_short : (schema : List Column) → length schema ≤ 16 → (row : Row) → fits_schema schema row ≡ true → IsShort row
row_short schema few row fits = let same = eqb_is (length schema) (length row) (first_of_two _ _ fits) in omega (arith, same, few)

are_rows : (size : ℕ) (test : ℕ → Bool) (schema : List Column) (rows : Rows) → length schema ≤ 16 → length rows < 256 ^ size → test (length rows) ≡ true → list_all (fits_schema schema) rows ≡ true → All IsTypedRow rows
    → AreRowsOf size test schema rows
are_rows size test schema rows few long may fit typed =
    let each = all_listed (fits_schema schema) rows fit in
    record { long = long; may = may; each = λ i x lt. ((row_short schema few (get_or rows i x) (each i x lt), typed i x lt), each i x lt) }

-- ---- how many units a window keeps

first_within : (d : WindowDef) (k : ℕ) → first_kept d k ≤ k
first_within d k = by (nat_lt k d.size)
  where
    by : (b : Bool) → cond b 0 ((k - d.size) / d.slide * d.slide) ≤ k
    by true = omega arith
    by false = let le = div-mul-le_self (k - d.size) d.slide in omega (arith, le)

few_kept : (d : WindowDef) (k : ℕ) → 1 ≤ d.slide → d.slide ≤ d.size → d.size ≤ 65536 → k - first_kept d k < 2 ^ 32
few_kept d k moves within small = by (nat_lt k d.size) refl
  where
    by : (b : Bool) → nat_lt k d.size ≡ b → k - cond b 0 ((k - d.size) / d.slide * d.slide) < 2 ^ 32
    by true less = let lt = ltb-true k d.size less in omega (arith, lt, small)
    by false more =
        let rest = mod_below (k - d.size) d.slide (omega (arith, moves)) in
        let whole = div-add-mod' (k - d.size) d.slide in
        omega (arith, rest, whole, within, small)

module _ (catalog : Catalog) (accepted : Accepted catalog) where
  counts : counts_within_limits catalog ≡ true
  counts = first_of_two _ _ (limits_of catalog accepted.form)

  table_columns : (t : ℕ) (d : TableDef) → slice_get catalog.tables t ≡ Some d → length d.schema ≤ 16
  table_columns t d is = leb-true (length d.schema) 16 (at_index (λ (d : TableDef). nat_le (length d.schema) 16) catalog.tables (second_of_two _ _ (first_of_two _ _ (first_of_two _ _ (first_of_two _ _ (first_of_two _ _ (first_of_two _ _ counts)))))) t d is)

  stream_columns : (s : ℕ) (d : StreamDef) → slice_get catalog.streams s ≡ Some d → length d.schema ≤ 16
  stream_columns s d is = leb-true (length d.schema) 16 (at_index (λ (d : StreamDef). nat_le (length d.schema) 16) catalog.streams (second_of_two _ _ (first_of_two _ _ (first_of_two _ _ (first_of_two _ _ (first_of_two _ _ counts))))) s d is)

  window_columns : (w : ℕ) (d : WindowDef) → slice_get catalog.windows w ≡ Some d → length d.schema ≤ 16
  window_columns w d is = leb-true (length d.schema) 16 (at_index (λ (d : WindowDef). nat_le (length d.schema) 16) catalog.windows (second_of_two _ _ (first_of_two _ _ (first_of_two _ _ (first_of_two _ _ counts)))) w d is)

  window_sizes : (w : ℕ) (d : WindowDef) → slice_get catalog.windows w ≡ Some d → (1 ≤ d.slide) × (d.slide ≤ d.size) × (d.size ≤ 65536)
  window_sizes w d is =
      let sizes : has_window_sizes catalog ≡ true = second_of_two _ _ (first_of_two _ _ (first_of_two _ _ (first_of_two _ _ accepted.form))) in
      let all = at_index (λ (d : WindowDef). nat_le 1 d.slide && nat_le d.slide d.size && nat_le d.size 65536) catalog.windows sizes w d is in
      let inner = and_parts (nat_le 1 d.slide && nat_le d.slide d.size) (nat_le d.size 65536) all in
      let first = and_parts (nat_le 1 d.slide) (nat_le d.slide d.size) inner.0 in
      (leb-true 1 d.slide first.0, leb-true d.slide d.size first.1, leb-true d.size 65536 inner.1)

  module _ (most : ℕ) (db : Database) (whole : WholeDatabase catalog db) (had : HadAtMost most db) (bodies : Bool) (fits : FitsImage bodies catalog (kept catalog db)) where
    table_is : (t : ℕ) (d : TableDef) → slice_get catalog.tables t ≡ Some d → IsTableOf d (get_or db.contents.tables t finmap.empty)
    unfolding table_at kept
    table_is t d is =
        let m = get_or db.contents.tables t finmap.empty in
        let table = whole.contents.tables t d is in
        let room = fits.tables t finmap.empty (omega (arith, slice_get_within catalog.tables t d is, whole.contents.table_count)) in
        let rows = all_values (λ row. fits_schema d.schema row ≡ true) (finmap.entries m) (of_entries (λ q row. fits_schema d.schema row ≡ true) m table.fits) in
        record { whole = table; fits = room; short = λ i x lt. row_short d.schema (table_columns t d is) (get_or (finmap.values m) i x) (rows i x lt) }

    abbrev kept_window : ℕ → Window → ℕ × Window
    kept_window w us = (length us, kept_units (window_def catalog w) us)

    window_of_units : (w : ℕ) (d : WindowDef) (us : Window) → slice_get catalog.windows w ≡ Some d → WholeWindow d us → FitsWindow (length us, kept_units d us) → IsWindowOf d (length us, kept_units d us)
    window_of_units w d us is window room =
        let sizes = window_sizes w d is in
        let some = first_within d (length us) in
        let many : length (kept_units d us) ≡ length us - first_kept d (length us) = length-drop (first_kept d (length us)) us in
        let units = all_listed (unit_fits d) (kept_units d us) window.units in
        record {
          few = window.few;
          kept = omega (arith, some, many);
          long = (let few = few_kept d (length us) sizes.0 sizes.1 sizes.2 in omega (arith, few, many));
          units = λ i x lt.
              (let unit = get_or (kept_units d us) i x in
              let parts = and_parts (has_unit_size d.unit unit) (list_all (fits_schema d.schema) unit) (units i x lt) in
              let fit = room.1 i x lt in
              are_rows 8 (is_unit d.unit) d.schema unit (window_columns w d is) fit.0 (unit_size d.unit unit ∙ parts.0) parts.1 fit.1);
        }

    window_is : (w : ℕ) (d : WindowDef) → slice_get catalog.windows w ≡ Some d → IsWindowOf d (get_or (kept catalog db).windows w (0, []))
    unfolding window_units kept
    window_is w d is =
        let there : w < length db.contents.windows = omega (arith, slice_get_within catalog.windows w d is, whole.contents.window_count) in
        let us = get_or db.contents.windows w [] in
        let own : window_def catalog w ≡ d = get_or_from_slice_get catalog.windows w d default_window is in
        let item : get_or (kept catalog db).windows w (0, []) ≡ (length us, kept_units d us) =
        get_or-map_index kept_window db.contents.windows w [] (0, []) there ∙ ap (λ (e : WindowDef). (length us, kept_units e us)) own in
        let room : FitsWindow (length us, kept_units d us) = subst FitsWindow item (fits.windows w (0, []) (omega (arith, there, length-map_index kept_window db.contents.windows))) in
        subst (IsWindowOf d) (sym item) (window_of_units w d us is (whole.contents.windows w d is) room)

    abbrev kept_stream : ℕ → List Rows → ℕ × (ℕ × List Rows)
    kept_stream s bs = (length bs, (least_count catalog db s, drop (least_count catalog db s) bs))

    many_streams : length db.streams ≡ length catalog.streams
    many_streams = whole.in_step.matched.shape.streams

    stream_at : (s : ℕ) → s < length catalog.streams → get_or (kept catalog db).streams s no_batches ≡ kept_stream s (stream_batches db s)
    unfolding kept
    stream_at s there = get_or-map_index kept_stream db.streams s [] no_batches (omega (arith, there, many_streams))

    had_at : (s : ℕ) → length (stream_batches db s) ≤ most_of catalog most s
    had_at s = by (is_inner_stream catalog s) refl
      where
        by : (inner : Bool) → is_inner_stream catalog s ≡ inner → length (stream_batches db s) ≤ cond inner 0 most
        by true inner = omega (arith, ap (λ (l : List Rows). length l) (whole.inner s inner))
        by false outer = had.streams s

    stream_there : (s : ℕ) (d : StreamDef) → slice_get catalog.streams s ≡ Some d → IsStreamAt catalog most s (get_or (kept catalog db).streams s no_batches)
    unfolding kept
    stream_there s d is =
        let there = slice_get_within catalog.streams s d is in
        let bs = stream_batches db s in
        let cs = stream_schema catalog s in
        let least = least_count catalog db s in
        let item = stream_at s there in
        let room : FitsStream (kept_stream s bs) = subst FitsStream item (fits.streams s no_batches (omega (arith, there, many_streams, length-map_index kept_stream db.streams))) in
        let schema : d.schema ≡ cs = sym (ap (λ o. unwrap_or (option_map (λ (d : StreamDef). d.schema) o) []) is) in
        let few : length cs ≤ 16 = subst (λ (z : List Column). length z ≤ 16) schema (stream_columns s d is) in
        let batches = all_listed (batch_fits cs) (drop least bs) (whole.batches s) in
        subst (IsStreamAt catalog most s) (sym item) (record {
          had = had_at s;
          long = room.0;
          first = least_within (λ q. procedure_takes catalog q s) (λ q. batch_count db q) (length bs) (range_with_len 0 (length catalog.procedures));
          kept = length-drop least bs;
          batches = λ i x lt.
              (let batch = get_or (drop least bs) i x in
              let parts = and_parts (nat_le (length batch) 1024) (list_all (fits_schema cs) batch) (batches i x lt) in
              let fit = room.2 i x lt in
              are_rows 2 (λ n. nat_le n 1024) cs batch few fit.0 parts.0 parts.1 fit.1);
        })

    stream_is : (i s : ℕ) → slice_get (range_with_len 0 (length catalog.streams)) i ≡ Some s → IsStreamAt catalog most s (get_or (kept catalog db).streams i no_batches)
    stream_is i s is =
        let there : i < length catalog.streams = omega (arith, slice_get_within (range_with_len 0 (length catalog.streams)) i s is, length-range_with_len 0 (length catalog.streams)) in
        let plain : 0 + i ≡ i = omega arith in
        let same : i ≡ s = sym (sym (get_or_from_slice_get (range_with_len 0 (length catalog.streams)) i s 0 is) ∙ get_or-range_with_len 0 (length catalog.streams) i 0 there ∙ plain) in
        subst (λ s. IsStreamAt catalog most s (get_or (kept catalog db).streams i no_batches)) same
        (⊎_elim (λ found. stream_there i found.0 found.2) (λ gone. absurd (omega (arith, gone.0, there))) (slice_get_cases catalog.streams i).1)

    together : AllGoTogether catalog (kept catalog db).streams db.counts
    unfolding kept
    together =
        let many = whole.in_step.matched.shape.counts in
        record {
          many = many;
          small = λ q there. fits.counts q 0 (omega (arith, there, many));
          calls = λ q there call. (let found = named (λ p. is_call p.kind) (slice_get catalog.procedures q) call in whole.calls q found.0 found.1 found.2);
          each = λ q s there in_streams.
              (let item = stream_at s in_streams in
              record {
                emits = λ yes. ap (λ (x : ℕ × (ℕ × List Rows)). x.0) item ∙ whole.in_step.matched.streams s q yes;
                takes = λ yes. subst (λ (x : ℕ × (ℕ × List Rows)). batch_count db q ≤ x.0) (sym item) (whole.in_step.within s q yes);
                last = λ yes.
                    ap (λ (x : ℕ × (ℕ × List Rows)). x.1.0) item
                    ∙ ap (λ n. fold (λ least p. cond (procedure_takes catalog p s) (min least (batch_count db p)) least) (length (stream_batches db s)) (range_with_len 0 n)) (sym many)
                    ∙ ap (λ (x : ℕ × (ℕ × List Rows)). least_of catalog s x.0 db.counts) (sym item);
              });
        }

    source_is : (i s : ℕ) → slice_get (range_with_len 0 (length catalog.streams)) i ≡ Some s → IsSourcesAt catalog s (get_or db.next_numbers i finmap.empty)
    unfolding kept
    source_is i s is =
        let there : i < length catalog.streams = omega (arith, slice_get_within (range_with_len 0 (length catalog.streams)) i s is, length-range_with_len 0 (length catalog.streams)) in
        let plain : 0 + i ≡ i = omega arith in
        let same : i ≡ s = sym (sym (get_or_from_slice_get (range_with_len 0 (length catalog.streams)) i s 0 is) ∙ get_or-range_with_len 0 (length catalog.streams) i 0 there ∙ plain) in
        let m = get_or db.next_numbers i finmap.empty in
        subst (λ s. IsSourcesAt catalog s m) same (record {
          sources = record {
            fits = fits.next_numbers i finmap.empty (omega (arith, there, whole.next_count));
            numbers = All-from_recursion IsNext (finmap.entries m) (of_look_ups (slice_cmp nat_cmp) nat_list_cmp_total (slice_cmp-IsAntisymmetric nat_cmp-IsAntisymmetric) (λ source n. IsNext (source, n)) m
                (λ source n is. (let number = whole.next_numbers i source n is in (number.at_least, number.at_most))));
          };
          none = λ other. none_there catalog db whole i other;
        })

    body_is : All (λ (t : List ℕ). length t < 2 ^ 32) db.bodies → (i q : ℕ) → slice_get (range_with_len 0 (length catalog.procedures)) i ≡ Some q → IsBodyOf catalog q (get_or db.bodies i [])
    body_is fit i q is =
        let there : i < length catalog.procedures = omega (arith, slice_get_within (range_with_len 0 (length catalog.procedures)) i q is, length-range_with_len 0 (length catalog.procedures)) in
        let plain : 0 + i ≡ i = omega arith in
        let same : i ≡ q = sym (sym (get_or_from_slice_get (range_with_len 0 (length catalog.procedures)) i q 0 is) ∙ get_or-range_with_len 0 (length catalog.procedures) i 0 there ∙ plain) in
        let small = fit i [] (omega (arith, there, whole.body_count)) in
        subst (λ q. IsBodyOf catalog q (get_or db.bodies i [])) same (record { short = omega (arith, small); may = ⊎_elim (λ found. whole.bodies i found.0 found.2) (λ gone. absurd (omega (arith, gone.0, there))) (slice_get_cases catalog.procedures i).1 })

    texts_are : (b : Bool) → FitBodies b catalog db.bodies → AreBodies b catalog db.bodies
    texts_are true fit = are_for (IsBodyOf catalog) (range_with_len 0 (length catalog.procedures)) db.bodies [] (whole.body_count ∙ sym (length-range_with_len 0 (length catalog.procedures))) (body_is fit)
    texts_are false fit = fit

    pub form_of : HasForm bodies catalog most (kept catalog db)
    unfolding kept
    form_of = record {
      tables = are_for IsTableOf catalog.tables db.contents.tables finmap.empty whole.contents.table_count table_is;
      windows = are_for IsWindowOf catalog.windows (kept catalog db).windows (0, []) (length-map_index kept_window db.contents.windows ∙ whole.contents.window_count) window_is;
      streams = are_for (IsStreamAt catalog most) (range_with_len 0 (length catalog.streams)) (kept catalog db).streams no_batches (length-map_index kept_stream db.streams ∙ many_streams ∙ sym (length-range_with_len 0 (length catalog.streams))) stream_is;
      counts = counts_together catalog (kept catalog db).streams db.counts together;
      sources = are_for (IsSourcesAt catalog) (range_with_len 0 (length catalog.streams)) db.next_numbers finmap.empty (whole.next_count ∙ sym (length-range_with_len 0 (length catalog.streams))) source_is;
      texts = texts_are bodies fits.texts;
    }
