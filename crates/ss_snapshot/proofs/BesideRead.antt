-- What stands behind the tables of an image, read part by part.
use Rattle.std.proofs.Common.{◌≡◌, ◌∙◌, ◌&&◌, ℕ, Bool, length, nat_le, List, [], ◌∷◌, true, Result, Ok, Err, refl, ap}
use Rattle.std.specs.List.{AllByRecursion, list_all, range_with_len}
use Rattle.std.proofs.lemmas.Bool.{leb-true}
use Rattle.ss_lemmas.proofs.Bools.{first_of_two, second_of_two}
use Rattle.ss_model.specs.declared.catalog.Catalog.{Catalog}
use Rattle.ss_model.specs.declared.catalog.WindowDef.{WindowDef}
use Rattle.ss_model.specs.CatalogForm.{has_form}
use Rattle.ss_value.specs.Rows.{Rows}
use Rattle.ss_model.specs.Contents.{Table, Window}
use Rattle.ss_model.specs.Database.{NextNumbers}
use Rattle.ss_model.specs.Settling.{Kept}
use Rattle.ss_cmdlog.specs.Reading.{◌>>>◌}
use Rattle.ss_standing.specs.ImageForm.{bodies_of, counts_of, kept_in, sources_at, stream_at, table_of, window_of}
use Rattle.ss_standing.specs.Readers.{Reader, each, followed}
use Rattle.ss_shard.specs.Databases.{WindowIsSound}
use Rattle.ss_snapshot.specs.declared.reading.fields.PartError.{PartError}
use Rattle.ss_snapshot.specs.declared.reading.fields.PartError.TheVariants.{NoMemory, Foreign}
use Rattle.ss_snapshot.specs.Beside.{BesideTables, beside_of, but_bodies_of, counts_and_sources_of, progress_of, to_kept}
use Rattle.ss_snapshot.specs.Parts.{Reads, Refuses}
use Rattle.ss_snapshot.proofs.Readings.{followed_ok, followed_refused}

-- what is refused of the first part is refused of both
pub first_refused : {A B : Type 0} (first : Reader A) (second : A → Reader B) (bytes : List ℕ) (e : PartError) → Refuses e (first bytes) → Refuses e (followed first second bytes)
first_refused first second bytes NoMemory refused = tt
first_refused {A = A} first second bytes (Foreign left) refused = ap (λ (r : Result (A × List ℕ) ℕ). r >>> λ x. second x.0 x.1 >>> λ y. Ok ((x.0, y.0), y.1)) refused

-- ---- the tables, and what is beside them

module _ (catalog : Catalog) (most : ℕ) (bytes : List ℕ) where
  pub tables_refused : (e : PartError) → Refuses e (each table_of catalog.tables bytes) → Refuses e (but_bodies_of catalog most bytes)
  tables_refused e refused = first_refused (each table_of catalog.tables) (λ tables. beside_of catalog most) bytes e refused

  module _ (tables : List Table) (rest : List ℕ) (is : each table_of catalog.tables bytes ≡ Ok (tables, rest)) where
    -- what is read beside the tables is read of both
    pub beside_with : {X : Type 0} (view : X → BesideTables) (behind : X → List ℕ) (r : Result X PartError) → Reads (λ x. (view x, behind x)) r (beside_of catalog most rest) → Reads (λ x. ((tables, view x), behind x)) r (but_bodies_of catalog most bytes)
    beside_with view behind (Ok x) read = followed_ok (each table_of catalog.tables) (λ tables. beside_of catalog most) bytes tables rest is (view x) (behind x) read
    beside_with view behind (Err NoMemory) read = tt
    beside_with view behind (Err (Foreign left)) read = followed_refused (each table_of catalog.tables) (λ tables. beside_of catalog most) bytes tables rest is (Foreign left) read

-- ---- the bodies behind them

-- what is read, made into something else, and beside something else
abbrev pub seen_by : {A B : Type 0} → (A → B) → Result (A × List ℕ) ℕ → Result (B × List ℕ) ℕ
seen_by f r = r >>> λ x. Ok (f x.0, x.1)

abbrev pub beside_it : {A B : Type 0} → A → Result (B × List ℕ) ℕ → Result ((A × B) × List ℕ) ℕ
beside_it a r = r >>> λ x. Ok ((a, x.0), x.1)

-- what is read in front, and something behind it
abbrev pub joined : {A B C : Type 0} → (A → B → C) → Result (A × List ℕ) ℕ → Reader B → Result (C × List ℕ) ℕ
joined f front read = front >>> λ x. seen_by (f x.0) (read x.1)

abbrev and_front : {A X B C : Type 0} → (X → B → C) → A × X → B → A × C
and_front f p y = (p.0, f p.1 y)

-- what is joined behind the second of two parts is joined behind both
module _ {A X B C : Type 0} (f : X → B → C) (first : Reader A) (inner : A → Reader C) (front : A → Reader X) (read : Reader B) where
  last : (a : A) (x : X) (r : Result (B × List ℕ) ℕ) → beside_it a (seen_by (f x) r) ≡ seen_by (and_front f (a, x)) r
  last a x (Ok y) = refl
  last a x (Err left) = refl

  mid : (a : A) (r : Result (X × List ℕ) ℕ) → beside_it a (joined f r read) ≡ joined (and_front f) (beside_it a r) read
  mid a (Ok x) = last a x.0 (read x.1)
  mid a (Err left) = refl

  one_in : ((x : A) (bytes : List ℕ) → inner x bytes ≡ joined f (front x bytes) read) → (bytes : List ℕ) → followed first inner bytes ≡ joined (and_front f) (followed first front bytes) read
  one_in is bytes = by (first bytes)
    where
      by : (r : Result (A × List ℕ) ℕ) → (r >>> λ x. beside_it x.0 (inner x.0 x.1)) ≡ joined (and_front f) (r >>> λ x. beside_it x.0 (front x.0 x.1)) read
      by (Ok x) = ap (λ (r : Result (C × List ℕ) ℕ). beside_it x.0 r) (is x.0 x.1) ∙ mid x.0 (front x.0 x.1)
      by (Err left) = refl

seen_twice : {B C D : Type 0} (k : C → D) (f : B → C) (r : Result (B × List ℕ) ℕ) → seen_by k (seen_by f r) ≡ seen_by (λ y. k (f y)) r
seen_twice k f (Ok y) = refl
seen_twice k f (Err left) = refl

seen_joined : {A B C D : Type 0} (k : C → D) (f : A → B → C) (r : Result (A × List ℕ) ℕ) (read : Reader B) → seen_by k (joined f r read) ≡ joined (λ x y. k (f x y)) r read
seen_joined k f (Ok x) read = seen_twice k (f x.0) (read x.1)
seen_joined k f (Err left) read = refl

abbrev Streamed : Type 0
Streamed = List (ℕ × (ℕ × List Rows))

abbrev pub Texts : Type 0
Texts = List (List ℕ)

-- the texts behind all else
abbrev f1 : List NextNumbers → Texts → List NextNumbers × Texts
f1 n t = (n, t)

abbrev pub whole_of : List Table × (List (ℕ × Window) × (Streamed × (List ℕ × (List NextNumbers × Texts)))) → Kept
whole_of k = record { tables = k.0; windows = k.1.0; streams = k.1.1.0; counts = k.1.1.1.0; next_numbers = k.1.1.1.1.0; bodies = k.1.1.1.1.1 }

module _ (bodies : Bool) (catalog : Catalog) (most : ℕ) where
  abbrev texts_read : Reader Texts
  texts_read = bodies_of bodies catalog

  abbrev numbers_read : Reader (List NextNumbers)
  numbers_read = each (sources_at catalog) (range_with_len 0 (length catalog.streams))

  abbrev all_numbers : Reader (List NextNumbers × Texts)
  all_numbers = followed numbers_read (λ n. texts_read)

  abbrev all_counts : Streamed → Reader (List ℕ × (List NextNumbers × Texts))
  all_counts streams = followed (counts_of catalog streams) (λ c. all_numbers)

  abbrev all_streams : Reader (Streamed × (List ℕ × (List NextNumbers × Texts)))
  all_streams = followed (each (stream_at catalog most) (range_with_len 0 (length catalog.streams))) all_counts

  abbrev all_windows : Reader (List (ℕ × Window) × (Streamed × (List ℕ × (List NextNumbers × Texts))))
  all_windows = followed (each window_of catalog.windows) (λ w. all_streams)

  abbrev all_tables : Reader (List Table × (List (ℕ × Window) × (Streamed × (List ℕ × (List NextNumbers × Texts)))))
  all_tables = followed (each table_of catalog.tables) (λ t. all_windows)

  at_counts : (streams : Streamed) (bytes : List ℕ) → all_counts streams bytes ≡ joined (and_front f1) (counts_and_sources_of catalog streams bytes) texts_read
  at_counts streams = one_in f1 (counts_of catalog streams) (λ c. all_numbers) (λ c. numbers_read) texts_read (λ c bytes. refl)

  at_streams : (bytes : List ℕ) → all_streams bytes ≡ joined (and_front (and_front f1)) (progress_of catalog most bytes) texts_read
  at_streams = one_in (and_front f1) (each (stream_at catalog most) (range_with_len 0 (length catalog.streams))) all_counts (counts_and_sources_of catalog) texts_read at_counts

  at_windows : (bytes : List ℕ) → all_windows bytes ≡ joined (and_front (and_front (and_front f1))) (beside_of catalog most bytes) texts_read
  at_windows = one_in (and_front (and_front f1)) (each window_of catalog.windows) (λ w. all_streams) (λ w. progress_of catalog most) texts_read (λ w. at_streams)

  at_tables : (bytes : List ℕ) → all_tables bytes ≡ joined (and_front (and_front (and_front (and_front f1)))) (but_bodies_of catalog most bytes) texts_read
  at_tables = one_in (and_front (and_front (and_front f1))) (each table_of catalog.tables) (λ t. all_windows) (λ t. beside_of catalog most) texts_read (λ t. at_windows)

  as_made : (bytes : List ℕ) → kept_in bodies catalog most bytes ≡ seen_by whole_of (all_tables bytes)
  unfolding kept_in
  as_made bytes = refl

  -- all that is kept is what is read but for the bodies, and these
  pub kept_by_parts : (bytes : List ℕ) → kept_in bodies catalog most bytes ≡ joined (λ (k : List Table × BesideTables) (texts : Texts). to_kept k.0 k.1 texts) (but_bodies_of catalog most bytes) texts_read
  kept_by_parts bytes =
      as_made bytes ∙ ap (seen_by whole_of) (at_tables bytes)
      ∙ seen_joined whole_of (and_front (and_front (and_front (and_front f1)))) (but_bodies_of catalog most bytes) texts_read

-- ---- windows of an accepted catalogue

all_sound : (ds : List WindowDef) → list_all (λ d. nat_le 1 d.slide && nat_le d.slide d.size && nat_le d.size 65536) ds ≡ true → AllByRecursion WindowIsSound ds
all_sound [] sizes = tt
all_sound (d ∷ ds) sizes =
    let slides = first_of_two (nat_le 1 d.slide && nat_le d.slide d.size) (nat_le d.size 65536) (first_of_two _ _ sizes) in
    ((leb-true 1 d.slide (first_of_two _ _ slides), leb-true d.slide d.size (second_of_two _ _ slides)), all_sound ds (second_of_two _ _ sizes))

pub windows_sound : (catalog : Catalog) → has_form catalog ≡ true → AllByRecursion WindowIsSound catalog.windows
windows_sound catalog form = all_sound catalog.windows (second_of_two _ _ (first_of_two _ _ (first_of_two _ _ (first_of_two _ _ form))))
