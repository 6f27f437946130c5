-- An image tells what is kept of a whole database.
use Rattle.std.proofs.Common.{◌≡◌, ◌∙◌, ℕ, ◌^◌, ◌<◌, ◌≤◌, List, [], ◌∷◌, ◌++◌, length, get_or, drop, Bool, true, false, refl, sym, subst, arith, All, Option, Some, None, append_assoc, ⊎_elim, true≢false}
use Rattle.std.specs.Prelude.{slice_get}
use Rattle.std.specs.List.{flat_map, AllByRecursion}
use Rattle.std.specs.Ordering.{nat_cmp}
use Rattle.std.specs.Cmp.Lexicographic.{slice_cmp, nat_list_cmp_total}
use Rattle.std.specs.FinMap as finmap
use Rattle.std.specs.FinMap.{get-empty, same_map, slice_cmp-IsAntisymmetric, nat_cmp-IsAntisymmetric, len-empty}
use Rattle.std.proofs.lemmas.Bool.{cases_lt}
use Rattle.std.proofs.lemmas.List.{append_cancel_left, ext_get_or, get_or_past}
use Rattle.std.proofs.lemmas.List.Elements.{All-nil}
use Rattle.std.proofs.lemmas.Option.{slice_get_cases}
use Rattle.ss_value.specs.Words.{is_name}
use Rattle.ss_value.specs.Rows.{Rows}
use Rattle.ss_model.specs.declared.catalog.Catalog.{Catalog}
use Rattle.ss_model.specs.declared.catalog.TableDef.{TableDef}
use Rattle.ss_model.specs.Results.{map_indexed}
use Rattle.ss_model.specs.Contents.{Window, window_def, kept_units, first_kept, key_columns, table_at}
use Rattle.ss_model.specs.Database.{Database, NextNumbers, is_border_stream}
use Rattle.ss_model.specs.Settling.{Kept, kept, least_count}
use Rattle.ss_model.specs.WholeDatabase.{WholeDatabase}
use Rattle.ss_model_kept.proofs.CallerLemmas.{get_or-map_index, length-map_index}
use Rattle.ss_record.specs.Numbers.{number_bytes}
use Rattle.ss_standing.specs.Image.{bodies_bytes, text_bytes, table_bytes, window_bytes, stream_bytes, all_sources, border_streams, kept_bytes, image_bytes}
use Rattle.ss_standing.specs.FitsImage.{FitsTable, FitsWindow, FitsStream, FitNumbers, FitsImage}
use Rattle.ss_standing.proofs.EmptyKept.{image_begins, no_entries}
use Rattle.ss_standing.proofs.Spelled.{number_one, many_one, bodies_one}
use Rattle.ss_standing.proofs.Parts.{IsKeyed, numbered_one, table_one, window_one, stream_one, streams_sources, each_passing}

unnumbered : {A : Type 0} (xs : List A) → map_indexed (λ i x. x) xs ≡ xs
unnumbered [] = refl
unnumbered (x ∷ xs) = λ k. x ∷ unnumbered xs k

-- what holds of each item that is made by its number
each_numbered : {A B : Type 0} (P : B → Type 0) (f : ℕ → A → B) (xs : List A) (d : A) → All P (map_indexed f xs) → (i : ℕ) → i < length xs → P (f i (get_or xs i d))
each_numbered P f xs d all i lt = subst P (get_or-map_index f xs i d (f i (get_or xs i d)) lt) (all i (f i (get_or xs i d)) (omega (arith, lt, length-map_index f xs)))

-- no sources
pub no_numbers_fit : FitNumbers finmap.empty
no_numbers_fit = (
  omega (arith, len-empty (slice_cmp nat_cmp) ℕ),
  subst (All (λ (next : List ℕ × ℕ). next.1 < 2 ^ 64)) (sym (no_entries (slice_cmp nat_cmp))) (All-nil (λ (next : List ℕ × ℕ). next.1 < 2 ^ 64)),
  subst (All (λ (next : List ℕ × ℕ). is_name next.0 ≡ true)) (sym (no_entries (slice_cmp nat_cmp))) (All-nil (λ (next : List ℕ × ℕ). is_name next.0 ≡ true)),
)

module _ (catalog : Catalog) where
  columns_at : ℕ → List ℕ
  columns_at t = key_columns (slice_get catalog.tables t)

  keyed_at : (db : Database) → WholeDatabase catalog db → (t : ℕ) → t < length db.contents.tables → IsKeyed (columns_at t) (get_or db.contents.tables t finmap.empty)
  unfolding columns_at table_at
  keyed_at db whole t lt = ⊎_elim
      (λ found. subst (λ (o : Option TableDef). IsKeyed (key_columns o) (get_or db.contents.tables t finmap.empty)) (sym found.2) (whole.contents.tables t found.0 found.2).keyed)
      (λ past. absurd (omega (arith, past.0, lt, whole.contents.table_count)))
      (slice_get_cases catalog.tables t).1

  -- the sources of a stream that isn't a border one
  pub none_there : (db : Database) → WholeDatabase catalog db → (i : ℕ) → is_border_stream catalog i ≡ false → get_or db.next_numbers i finmap.empty ≡ finmap.empty
  none_there db whole i other =
      same_map nat_list_cmp_total (slice_cmp-IsAntisymmetric nat_cmp-IsAntisymmetric) (get_or db.next_numbers i finmap.empty) finmap.empty
      (λ q. none q (finmap.get (get_or db.next_numbers i finmap.empty) q) refl ∙ sym (get-empty (slice_cmp nat_cmp) q))
    where
      none : (q : List ℕ) (o : Option ℕ) → finmap.get (get_or db.next_numbers i finmap.empty) q ≡ o → finmap.get (get_or db.next_numbers i finmap.empty) q ≡ None
      none q None is = is
      none q (Some n) is = absurd (true≢false (sym (whole.next_numbers i q n is).border ∙ other))

  numbers_fit : (ms : List NextNumbers) → All FitNumbers ms → (i : ℕ) → FitNumbers (get_or ms i finmap.empty)
  numbers_fit ms all i = ⊎_elim
      (λ (lt : i < length ms). all i finmap.empty lt)
      (λ (past : length ms ≤ i). subst FitNumbers (sym (get_or_past ms i finmap.empty past)) no_numbers_fit)
      (cases_lt i (length ms))

module _ (bodies : Bool) (catalog : Catalog) where
  -- what is behind the counts, the streams, the windows and the tables of an image
  abbrev behind_counts : Kept → List ℕ
  behind_counts k = all_sources catalog k.next_numbers ++ bodies_bytes bodies k.bodies

  abbrev behind_streams : Kept → List ℕ
  behind_streams k = flat_map (number_bytes 8) k.counts ++ behind_counts k

  abbrev behind_windows : Kept → List ℕ
  behind_windows k = flat_map stream_bytes k.streams ++ behind_streams k

  abbrev behind_tables : Kept → List ℕ
  behind_tables k = flat_map window_bytes k.windows ++ behind_windows k

  regroup : (k : Kept) → kept_bytes bodies catalog k ≡ flat_map table_bytes k.tables ++ behind_tables k
  regroup k = simp append_assoc

  module _ (a b : Database) (whole_a : WholeDatabase catalog a) (whole_b : WholeDatabase catalog b) (fits_a : FitsImage bodies catalog (kept catalog a)) (fits_b : FitsImage bodies catalog (kept catalog b)) where
    tables_same : (r s : List ℕ) → flat_map table_bytes a.contents.tables ++ r ≡ flat_map table_bytes b.contents.tables ++ s → (a.contents.tables ≡ b.contents.tables) × (r ≡ s)
    unfolding kept
    tables_same r s e =
        let same = numbered_one table_bytes finmap.empty (λ i m. IsKeyed (columns_at catalog i) m × FitsTable m) (λ i m. IsKeyed (columns_at catalog i) m × FitsTable m) (λ i m. m) (λ i m. m)
        (λ i m n r s fits other e. table_one (columns_at catalog i) m n r s fits other e) a.contents.tables b.contents.tables r s (whole_a.contents.table_count ∙ sym whole_b.contents.table_count)
        (λ i lt. (keyed_at catalog a whole_a i lt, fits_a.tables i finmap.empty lt)) (λ i lt. (keyed_at catalog b whole_b i lt, fits_b.tables i finmap.empty lt))
        ((λ k. flat_map table_bytes (unnumbered a.contents.tables k) ++ r) ∙ e ∙ (λ k. flat_map table_bytes (sym (unnumbered b.contents.tables) k) ++ s)) in
        (sym (unnumbered a.contents.tables) ∙ same.0 ∙ unnumbered b.contents.tables, same.1)

    windows_same : (r s : List ℕ) → flat_map window_bytes (kept catalog a).windows ++ r ≡ flat_map window_bytes (kept catalog b).windows ++ s → ((kept catalog a).windows ≡ (kept catalog b).windows) × (r ≡ s)
    unfolding kept
    windows_same r s e =
        let kept_window : ℕ → Window → ℕ × Window = λ w us. (length us, kept_units (window_def catalog w) us) in
        numbered_one window_bytes [] (λ w us. FitsWindow (length us, kept_units (window_def catalog w) us)) (λ w us. FitsWindow (length us, kept_units (window_def catalog w) us)) kept_window kept_window
        (λ w us vs r s fits other e. window_one (first_kept (window_def catalog w)) us vs r s fits other e) a.contents.windows b.contents.windows r s (whole_a.contents.window_count ∙ sym whole_b.contents.window_count)
        (each_numbered FitsWindow kept_window a.contents.windows [] fits_a.windows) (each_numbered FitsWindow kept_window b.contents.windows [] fits_b.windows) e

    streams_same : (r s : List ℕ) → flat_map stream_bytes (kept catalog a).streams ++ r ≡ flat_map stream_bytes (kept catalog b).streams ++ s → ((kept catalog a).streams ≡ (kept catalog b).streams) × (r ≡ s)
    unfolding kept
    streams_same r s e =
        let kept_stream : Database → ℕ → List Rows → ℕ × (ℕ × List Rows) = λ db i bs. (length bs, (least_count catalog db i, drop (least_count catalog db i) bs)) in
        numbered_one stream_bytes [] (λ i bs. FitsStream (kept_stream a i bs)) (λ i bs. FitsStream (kept_stream b i bs)) (kept_stream a) (kept_stream b)
        (λ i bs cs r s fits other e. stream_one (least_count catalog a i) (least_count catalog b i) bs cs r s fits other e) a.streams b.streams r s (whole_a.in_step.matched.shape.streams ∙ sym whole_b.in_step.matched.shape.streams)
        (each_numbered FitsStream (kept_stream a) a.streams [] fits_a.streams) (each_numbered FitsStream (kept_stream b) b.streams [] fits_b.streams) e

    counts_same : (r s : List ℕ) → flat_map (number_bytes 8) a.counts ++ r ≡ flat_map (number_bytes 8) b.counts ++ s → (a.counts ≡ b.counts) × (r ≡ s)
    unfolding kept
    counts_same r s e = many_one (λ (n : ℕ). n < 2 ^ 64) (number_bytes 8) (number_one 8) a.counts b.counts r s (whole_a.in_step.matched.shape.counts ∙ sym whole_b.in_step.matched.shape.counts) fits_a.counts fits_b.counts e

    numbers_same : (r s : List ℕ) → all_sources catalog a.next_numbers ++ r ≡ all_sources catalog b.next_numbers ++ s → (a.next_numbers ≡ b.next_numbers) × (r ≡ s)
    unfolding kept
    numbers_same r s e =
        let of_border = streams_sources (λ i. get_or a.next_numbers i finmap.empty) (λ i. get_or b.next_numbers i finmap.empty) (numbers_fit catalog a.next_numbers fits_a.next_numbers) (numbers_fit catalog b.next_numbers fits_b.next_numbers)
        (border_streams catalog) r s e in
        (ext_get_or finmap.empty a.next_numbers b.next_numbers (whole_a.next_count ∙ sym whole_b.next_count) (λ i lt. by i (omega (arith, lt, whole_a.next_count)) of_border.0 (is_border_stream catalog i) refl), of_border.1)
      where
        by : (i : ℕ) → i < length catalog.streams → AllByRecursion (λ i. get_or a.next_numbers i finmap.empty ≡ get_or b.next_numbers i finmap.empty) (border_streams catalog) → (border : Bool)
            → is_border_stream catalog i ≡ border → get_or a.next_numbers i finmap.empty ≡ get_or b.next_numbers i finmap.empty
        by i lt all true is = each_passing (is_border_stream catalog) (λ i. get_or a.next_numbers i finmap.empty ≡ get_or b.next_numbers i finmap.empty) (length catalog.streams) 0 all i (omega arith) (omega (arith, lt)) is
        by i lt all false is = none_there catalog a whole_a i is ∙ sym (none_there catalog b whole_b i is)

    bodies_same : bodies_bytes bodies a.bodies ≡ bodies_bytes bodies b.bodies → a.bodies ≡ b.bodies
    unfolding kept
    bodies_same e = bodies_one bodies catalog a.bodies b.bodies (whole_a.body_count ∙ sym whole_b.body_count) fits_a.texts fits_b.texts e

    pub image_tells : image_bytes bodies catalog (kept catalog a) ≡ image_bytes bodies catalog (kept catalog b) → kept catalog a ≡ kept catalog b
    unfolding kept
    image_tells e =
        let bytes = append_cancel_left (text_bytes catalog.text) (kept_bytes bodies catalog (kept catalog a)) (kept_bytes bodies catalog (kept catalog b))
        (sym (image_begins bodies catalog (kept catalog a)) ∙ e ∙ image_begins bodies catalog (kept catalog b)) in
        let tables = tables_same (behind_tables (kept catalog a)) (behind_tables (kept catalog b)) (sym (regroup (kept catalog a)) ∙ bytes ∙ regroup (kept catalog b)) in
        let windows = windows_same (behind_windows (kept catalog a)) (behind_windows (kept catalog b)) tables.1 in
        let streams = streams_same (behind_streams (kept catalog a)) (behind_streams (kept catalog b)) windows.1 in
        let counts = counts_same (behind_counts (kept catalog a)) (behind_counts (kept catalog b)) streams.1 in
        let numbers = numbers_same (bodies_bytes bodies a.bodies) (bodies_bytes bodies b.bodies) counts.1 in
        let texts = bodies_same numbers.1 in
        λ k. record { tables = tables.0 k; windows = windows.0 k; streams = streams.0 k; counts = counts.0 k; next_numbers = numbers.0 k; bodies = texts k }
