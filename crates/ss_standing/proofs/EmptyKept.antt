-- What is kept of the empty database, as bytes.
use Rattle.std.proofs.Common.{◌≡◌, ◌∙◌, ℕ, zero, suc, List, [], ◌∷◌, ◌++◌, length, map, get_or, drop, replicate, Bool, true, false, cond, min, refl, sym, ap, arith, append-nil}
use Rattle.std.specs.List.{flat_map, fold}
use Rattle.std.specs.FinMap as finmap
use Rattle.std.specs.FinMap.{len-empty, len-entries}
use Rattle.std.specs.Ordering.{nat_cmp}
use Rattle.std.specs.Cmp.Lexicographic.{slice_cmp}
use Rattle.std.specs.declared.cmp.Ordering.{Ordering}
use Rattle.std.proofs.Math.Seq.{drop-nil}
use Rattle.std.proofs.lemmas.List.{nil_from_length}
use Rattle.ss_value.specs.Rows.{Row, Rows}
use Rattle.ss_value.specs.Order.{row_cmp}
use Rattle.ss_model.specs.declared.catalog.Catalog.{Catalog}
use Rattle.ss_model.specs.Results.{map_indexed}
use Rattle.ss_model.specs.Contents.{Window, window_def, kept_units, first_kept}
use Rattle.ss_model.specs.Database.{empty_database, batch_count, own_bodies}
use Rattle.ss_model.specs.Orders.{procedure_takes}
use Rattle.ss_model.specs.Settling.{Kept, kept, least_count, procedure_numbers}
use Rattle.ss_model_kept.proofs.CallerLemmas.{get_or-alike}
use Rattle.ss_record.specs.Numbers.{number_bytes}
use Rattle.ss_standing.specs.Image.{text_bytes, counted_rows, table_bytes, window_bytes, stream_bytes, source_bytes, sources_bytes, border_streams, kept_bytes, image_bytes, empty_image_of, repeated}

-- ---- one item

pub no_entries : {K X : Type 0} (R : K → K → Ordering) → finmap.entries (finmap.empty {X = X} {R = R}) ≡ []
no_entries {X = X} R = nil_from_length _ (sym (len-entries (finmap.empty {X = X} {R = R})) ∙ len-empty R X)

pub no_table : table_bytes finmap.empty ≡ number_bytes 8 0
no_table = ap (λ (es : List (Row × Row)). counted_rows 8 (map (λ e. e.1) es)) (no_entries row_cmp) ∙ append-nil (number_bytes 8 0)

pub no_window : window_bytes (0, []) ≡ number_bytes 8 0 ++ number_bytes 4 0
no_window = append-nil (number_bytes 8 0 ++ number_bytes 4 0)

pub no_stream : stream_bytes (0, (0, [])) ≡ number_bytes 8 0 ++ number_bytes 8 0
no_stream = append-nil (number_bytes 8 0 ++ number_bytes 8 0)

pub no_sources : sources_bytes finmap.empty ≡ number_bytes 8 0
no_sources =
    (λ k. number_bytes 8 (len-empty (slice_cmp nat_cmp) ℕ k) ++ flat_map source_bytes (no_entries {X = ℕ} (slice_cmp nat_cmp) k))
    ∙ append-nil (number_bytes 8 0)

-- ---- items that are alike

indexed_alike : {A B : Type 0} (f : ℕ → A → B) (x : A) (y : B) → ((i : ℕ) → f i x ≡ y) → (n : ℕ) → map_indexed f (replicate n x) ≡ replicate n y
indexed_alike f x y same zero = refl
indexed_alike f x y same (suc n) = λ k. same 0 k ∷ indexed_alike (λ i. f (suc i)) x y (λ i. same (suc i)) n k

-- what no stream's number changes
sources_alike : {A : Type 0} (spell : A → List ℕ) (x : A) (at : ℕ → A) → ((s : ℕ) → at s ≡ x) → (ss : List ℕ) → flat_map (λ s. spell (at s)) ss ≡ repeated spell (length ss) x
sources_alike spell x at same [] = refl
sources_alike spell x at same (s ∷ ss) = λ k. spell (same s k) ++ sources_alike spell x at same ss k

-- ---- what is kept of the empty database

module _ (catalog : Catalog) where
  no_units : (w : ℕ) → ◌≡◌ {A = ℕ × Window} (0, kept_units (window_def catalog w) []) (0, [])
  no_units w = λ k. (0, drop-nil {A = Rows} (first_kept (window_def catalog w) 0) k)

  least_of_none : (s : ℕ) (qs : List ℕ) → fold (λ least q. cond (procedure_takes catalog q s) (min least (batch_count (empty_database catalog) q)) least) 0 qs ≡ 0
  least_of_none s [] = refl
  least_of_none s (q ∷ qs) =
      ap (λ n. fold (λ least q. cond (procedure_takes catalog q s) (min least (batch_count (empty_database catalog) q)) least) n qs) (still (procedure_takes catalog q s) (batch_count (empty_database catalog) q))
      ∙ least_of_none s qs
    where
      still : (b : Bool) (n : ℕ) → cond b (min 0 n) 0 ≡ 0
      still true n = omega arith
      still false n = refl

  no_least : (s : ℕ) → least_count catalog (empty_database catalog) s ≡ 0
  no_least s =
      ap (λ (bs : List Rows). fold (λ least q. cond (procedure_takes catalog q s) (min least (batch_count (empty_database catalog) q)) least) (length bs) (procedure_numbers catalog)) (get_or-alike (length catalog.streams) s [])
      ∙ least_of_none s (procedure_numbers catalog)

  no_batches : (s : ℕ) → ◌≡◌ {A = ℕ × (ℕ × List Rows)} (0, (least_count catalog (empty_database catalog) s, drop (least_count catalog (empty_database catalog) s) [])) (0, (0, []))
  no_batches s = λ k. (0, (no_least s k, drop-nil {A = Rows} (least_count catalog (empty_database catalog) s) k))

  abbrev pub empty_kept : Kept
  empty_kept = record {
    tables = replicate (length catalog.tables) finmap.empty;
    windows = replicate (length catalog.windows) (0, []);
    streams = replicate (length catalog.streams) (0, (0, []));
    counts = replicate (length catalog.procedures) 0;
    next_numbers = replicate (length catalog.streams) finmap.empty;
    bodies = own_bodies catalog;
  }

  pub kept_empty : kept catalog (empty_database catalog) ≡ empty_kept
  unfolding kept
  kept_empty = λ k. record {
    tables = replicate (length catalog.tables) finmap.empty;
    windows = indexed_alike (λ w us. (length us, kept_units (window_def catalog w) us)) [] (0, []) no_units (length catalog.windows) k;
    streams = indexed_alike (λ s bs. (length bs, (least_count catalog (empty_database catalog) s, drop (least_count catalog (empty_database catalog) s) bs))) [] (0, (0, [])) no_batches (length catalog.streams) k;
    counts = replicate (length catalog.procedures) 0;
    next_numbers = replicate (length catalog.streams) finmap.empty;
    bodies = own_bodies catalog;
  }

  -- all of it
  pub empty_image : empty_image_of catalog ≡ text_bytes catalog.text
      ++ (repeated table_bytes (length catalog.tables) finmap.empty
      ++ repeated window_bytes (length catalog.windows) (0, [])
      ++ repeated stream_bytes (length catalog.streams) (0, (0, []))
      ++ repeated (number_bytes 8) (length catalog.procedures) 0
      ++ repeated sources_bytes (length (border_streams catalog)) finmap.empty
      ++ flat_map text_bytes (own_bodies catalog))
  unfolding image_bytes
  empty_image =
      ap (image_bytes true catalog) kept_empty
      ∙ ap (λ (l : List ℕ). text_bytes catalog.text
      ++ (repeated table_bytes (length catalog.tables) finmap.empty
      ++ repeated window_bytes (length catalog.windows) (0, [])
      ++ repeated stream_bytes (length catalog.streams) (0, (0, []))
      ++ repeated (number_bytes 8) (length catalog.procedures) 0
      ++ l
      ++ flat_map text_bytes (own_bodies catalog)))
      (sources_alike sources_bytes finmap.empty (λ s. get_or (replicate (length catalog.streams) finmap.empty) s finmap.empty) (λ s. get_or-alike (length catalog.streams) s finmap.empty) (border_streams catalog))

-- the image begins with its text
pub image_begins : (bodies : Bool) (catalog : Catalog) (k : Kept) → image_bytes bodies catalog k ≡ text_bytes catalog.text ++ kept_bytes bodies catalog k
unfolding image_bytes
image_begins bodies catalog k = refl
