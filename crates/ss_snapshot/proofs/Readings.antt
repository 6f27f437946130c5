-- What is read of items one behind another, all at once or some of them first.
use Rattle.std.proofs.Common.{◌≡◌, ◌∙◌, ℕ, zero, suc, ◌+◌, List, [], ◌∷◌, length, map, Bool, true, false, cond, T, Option, Some, None, option_map, Result, Ok, Err, refl, sym, ap, subst, arith}
use Rattle.std.specs.List.{fold}
use Rattle.std.specs.Option.{option_or}
use Rattle.std.specs.FinMap as finmap
use Rattle.std.specs.FinMap.Entries as entries
use Rattle.std.specs.Ordering.{eq_by_cmp, is_eq, is_lt}
use Rattle.std.specs.Cmp.{Equal-is}
use Rattle.std.specs.declared.cmp.Ordering.{Ordering}
use Rattle.std.specs.declared.cmp.Ordering.TheVariants.{Less, Equal, Greater}
use Rattle.ss_lemmas.proofs.Bools.{and_left, and_right}
use Rattle.ss_value.specs.Fit.{fits_schema}
use Rattle.ss_value.specs.Order.{row_cmp}
use Rattle.ss_value.specs.Rows.{Row, Rows, column_values}
use Rattle.ss_value.specs.ValueOrder.{row_cmp_total, row_cmp-IsAntisymmetric}
use Rattle.ss_model.specs.declared.catalog.TableDef.{TableDef}
use Rattle.ss_model.specs.Contents.{Table}
use Rattle.ss_record.specs.Reading.{row_at}
use Rattle.ss_cmdlog.specs.Reading.{◌>>>◌}
use Rattle.ss_cmdlog.proofs.CallerLemmas.{bind_ok, kept_ok, ok_pair, read_so}
use Rattle.ss_standing.specs.ImageForm.{as_row, counted, may_have, number_where, row_above, row_of, table_of, table_with}
use Rattle.ss_standing.specs.Readers.{Chained, Reader, followed, is_above, many, made, passing, with_front}
use Rattle.ss_standing.proofs.CallerLemmas.{item_refused}
use Rattle.ss_standing.proofs.Chains.{chained_map, chained_so}
use Rattle.ss_standing.proofs.Rising.{rising_sorted}
use Rattle.ss_snapshot.specs.declared.reading.fields.PartError.{PartError}
use Rattle.ss_snapshot.specs.declared.reading.fields.PartError.TheVariants.{NoMemory, Foreign}
use Rattle.ss_snapshot.specs.ImageParts.{last_row, rows_above}
use Rattle.ss_snapshot.specs.Parts.{Reads, Refuses}
use Rattle.ss_snapshot.specs.Tables.{put_rows}
use Rattle.ss_snapshot.proofs.Putting.{IsAbove, key, next}

-- ---- one item of a list

module _ {S A : Type 0} (next : S → A → S) (read : S → Reader A) where
  -- what is refused of an item is refused of all
  pub one_refused : (front : List A) (n : ℕ) (s : S) (bytes : List ℕ) (all : Result (List A × List ℕ) ℕ) (e : PartError) → with_front front (many next read (suc n) s bytes) ≡ all → Refuses e (read s bytes) → Refuses e all
  one_refused front n s bytes all NoMemory so_far refused = tt
  one_refused front n s bytes all (Foreign left) so_far refused = sym so_far ∙ item_refused next read front n s bytes left refused

  module _ (P : S → A → Type 0) (gives : (s : S) (bytes : List ℕ) (x : A) (rest : List ℕ) → read s bytes ≡ Ok (x, rest) → P s x) where
    -- what each item has that is read, and how many they are
    pub many_give : (n : ℕ) (s : S) (bytes : List ℕ) (xs : List A) (rest : List ℕ) → many next read n s bytes ≡ Ok (xs, rest) → (length xs ≡ n) × Chained next P s xs
    many_give zero s bytes xs rest is = let both = ok_pair [] xs bytes rest is in (ap length (sym both.0), subst (Chained next P s) both.0 tt)
    many_give (suc n) s bytes xs rest is =
        let first = bind_ok (read s bytes) (λ x. many next read n (next s x.0) x.1 >>> λ ys. Ok (x.0 ∷ ys.0, ys.1)) (xs, rest) is in
        let others = bind_ok (many next read n (next s first.0.0) first.0.1) (λ ys. Ok (first.0.0 ∷ ys.0, ys.1)) (xs, rest) first.2 in
        let both = ok_pair (first.0.0 ∷ others.0.0) xs others.0.1 rest others.2 in
        let more = many_give n (next s first.0.0) first.0.1 others.0.0 others.0.1 others.1 in
        (ap length (sym both.0) ∙ ap suc more.0, subst (Chained next P s) both.0 (gives s bytes first.0.0 first.0.1 first.1, more.1))

pub passing_gives : {A : Type 0} (test : A → Bool) (read : Reader A) (bytes : List ℕ) (x : A) (rest : List ℕ) → passing test read bytes ≡ Ok (x, rest) → (test x ≡ true) × (read bytes ≡ Ok (x, rest))
passing_gives {A = A} test read bytes x rest is =
    let first = bind_ok (read bytes) (λ y. cond (test y.0) (Ok y) (Err (length bytes))) (x, rest) is in
    let parts = kept_ok (test first.0.0) (read_so first.0.0 first.0.1) (length bytes) (x, rest) first.2 in
    let both = ok_pair first.0.0 x first.0.1 rest parts.1 in
    (ap test (sym both.0) ∙ parts.0, first.1 ∙ parts.1)

-- one part behind another
module _ {A B : Type 0} (first : Reader A) (second : A → Reader B) (bytes : List ℕ) (a : A) (rest : List ℕ) (is : first bytes ≡ read_so a rest) where
  pub followed_ok : (b : B) (behind : List ℕ) → second a rest ≡ read_so b behind → followed first second bytes ≡ Ok ((a, b), behind)
  followed_ok b behind other =
      ap (λ (r : Result (A × List ℕ) ℕ). r >>> λ x. second x.0 x.1 >>> λ y. Ok ((x.0, y.0), y.1)) is
      ∙ ap (λ (r : Result (B × List ℕ) ℕ). r >>> λ y. Ok ((a, y.0), y.1)) other

  pub followed_refused : (e : PartError) → Refuses e (second a rest) → Refuses e (followed first second bytes)
  followed_refused NoMemory refused = tt
  followed_refused (Foreign left) refused =
      ap (λ (r : Result (A × List ℕ) ℕ). r >>> λ x. second x.0 x.1 >>> λ y. Ok ((x.0, y.0), y.1)) is
      ∙ ap (λ (r : Result (B × List ℕ) ℕ). r >>> λ y. Ok ((a, y.0), y.1)) refused

pub made_ok : {A B : Type 0} (f : A → B) (read : Reader A) (bytes : List ℕ) (x : A) (rest : List ℕ) → read bytes ≡ read_so x rest → made f read bytes ≡ read_so (f x) rest
made_ok {A = A} f read bytes x rest is = ap (λ (r : Result (A × List ℕ) ℕ). r >>> λ y. Ok (f y.0, y.1)) is

-- items behind their number
pub counted_ok : {S A : Type 0} (size : ℕ) (test : ℕ → Bool) (next : S → A → S) (read : S → Reader A) (s : S) (bytes : List ℕ) (n : ℕ) (rest : List ℕ) (xs : List A) (behind : List ℕ)
    → number_where size test bytes ≡ read_so n rest → many next read n s rest ≡ read_so xs behind → counted size test next read s bytes ≡ read_so xs behind
counted_ok {A = A} size test next read s bytes n rest xs behind is items =
    made_ok (λ (p : ℕ × List A). p.1) (followed (number_where size test) (λ n. many next read n s)) bytes (n, xs) behind
    (followed_ok (number_where size test) (λ n. many next read n s) bytes n rest is xs behind items)

-- ---- rows of a table

-- the key of the last row that was read
pub last_keys : (cs : List ℕ) (before : Option Row) (rows : Rows) → option_map (column_values cs) (last_row before rows) ≡ fold (λ last row. Some (column_values cs row)) (option_map (column_values cs) before) rows
last_keys cs before [] = refl
last_keys cs before (row ∷ rows) = last_keys cs (Some row) rows

module _ (d : TableDef) where
  -- a row of the table, behind a last key
  pub record IsRead (last : Option Row) (row : Row) : Type 0 where
    pub fits : fits_schema d.schema row ≡ true
    pub above : IsAbove d last row

  row_gives : (last : Option Row) (bytes : List ℕ) (row : Row) (rest : List ℕ) → row_above d last bytes ≡ Ok (row, rest) → IsRead last row
  row_gives last bytes row rest is =
      let outer = passing_gives (λ row. is_above row_cmp last (column_values d.key row)) (row_of d.schema) bytes row rest is in
      let inner = passing_gives (fits_schema d.schema) (λ bytes. as_row bytes (row_at bytes)) bytes row rest outer.1 in
      record { fits = inner.0; above = outer.0 }

  pub rows_give : (n : ℕ) (last : Option Row) (bytes : List ℕ) (rows : Rows) (rest : List ℕ) → rows_above d n last bytes ≡ Ok (rows, rest) → (length rows ≡ n) × Chained (next d) IsRead last rows
  rows_give n last bytes rows rest is = many_give (next d) (row_above d) IsRead row_gives n last bytes rows rest is

  pub rows_rise : (last : Option Row) (rows : Rows) → Chained (next d) IsRead last rows → Chained (next d) (IsAbove d) last rows
  rows_rise last rows read = chained_so (next d) IsRead (IsAbove d) (λ s row is. is.above) last rows read

  -- what is read, put into a table
  abbrev pub onto : Table → Result (Rows × List ℕ) ℕ → Result (Table × List ℕ) ℕ
  onto m read = read >>> λ x. Ok (put_rows d m x.0, x.1)

  -- the rows behind the first one
  after_one : (n : ℕ) (last : Option Row) (bytes : List ℕ) (r : Result (Row × List ℕ) ℕ) → row_above d last bytes ≡ r
      → rows_above d (suc n) last bytes ≡ (r >>> λ x. rows_above d n (Some (key d x.0)) x.1 >>> λ xs. Ok (x.0 ∷ xs.0, xs.1))
  after_one n last bytes r is = ap (λ (r : Result (Row × List ℕ) ℕ). r >>> λ x. rows_above d n (Some (key d x.0)) x.1 >>> λ xs. Ok (x.0 ∷ xs.0, xs.1)) is

  abbrev with_one : Row → Result (Rows × List ℕ) ℕ → Result (Rows × List ℕ) ℕ
  with_one row r = r >>> λ xs. Ok (row ∷ xs.0, xs.1)

  behind_one : (row : Row) (r : Result (Rows × List ℕ) ℕ) (left : ℕ) → with_one row r ≡ Err left → r ≡ Err left
  behind_one row (Ok xs) left h = cc
  behind_one row (Err e) left h = (let p : e ≡ left = cc in ap Err p)

  one_onto : (m : Table) (row : Row) (read : Result (Rows × List ℕ) ℕ) → onto m (read >>> λ xs. Ok (row ∷ xs.0, xs.1)) ≡ onto (finmap.insert m (key d row) row) read
  one_onto m row (Ok x) = refl
  one_onto m row (Err left) = refl

  one_read : (n : ℕ) (last : Option Row) (m : Table) (bytes : List ℕ) (row : Row) (rest : List ℕ) → row_above d last bytes ≡ Ok (row, rest)
      → onto m (rows_above d (suc n) last bytes) ≡ onto (finmap.insert m (key d row) row) (rows_above d n (Some (key d row)) rest)
  one_read n last m bytes row rest is =
      ap (λ (r : Result (Rows × List ℕ) ℕ). onto m r) (after_one n last bytes (Ok (row, rest)) is)
      ∙ one_onto m row (rows_above d n (Some (key d row)) rest)

  -- a row, and some behind it
  first_read : (a b : ℕ) (last : Option Row) (m : Table) (bytes : List ℕ) (row : Row) (middle : List ℕ) (others : Rows) (behind : List ℕ) → row_above d last bytes ≡ Ok (row, middle)
      → onto (finmap.insert m (key d row) row) (rows_above d (a + b) (Some (key d row)) middle)
      ≡ onto (put_rows d (finmap.insert m (key d row) row) others) (rows_above d b (fold (next d) (Some (key d row)) others) behind)
      → (rows : Rows) (rest : List ℕ) → row ∷ others ≡ rows → behind ≡ rest
      → onto m (rows_above d (suc a + b) last bytes) ≡ onto (put_rows d m rows) (rows_above d b (fold (next d) last rows) rest)
  first_read a b last m bytes row middle others behind is more rows rest all end =
      let longer : suc a + b ≡ suc (a + b) = omega arith in
      ap (λ (n : ℕ). onto m (rows_above d n last bytes)) longer
      ∙ one_read (a + b) last m bytes row middle is ∙ more
      ∙ (λ k. onto (put_rows d m (all k)) (rows_above d b (fold (next d) last (all k)) (end k)))

  -- some rows first, and then the others
  pub some_read : (a b : ℕ) (last : Option Row) (m : Table) (bytes : List ℕ) (rows : Rows) (rest : List ℕ) → rows_above d a last bytes ≡ Ok (rows, rest)
      → onto m (rows_above d (a + b) last bytes) ≡ onto (put_rows d m rows) (rows_above d b (fold (next d) last rows) rest)
  some_read zero b last m bytes rows rest is =
      let both = ok_pair [] rows bytes rest is in
      let same : zero + b ≡ b = omega arith in
      λ k. onto (put_rows d m (both.0 k)) (rows_above d (same k) (fold (next d) last (both.0 k)) (both.1 k))
  some_read (suc a) b last m bytes rows rest is =
      let first = bind_ok (row_above d last bytes) (λ x. rows_above d a (Some (key d x.0)) x.1 >>> λ ys. Ok (x.0 ∷ ys.0, ys.1)) (rows, rest) is in
      let others = bind_ok (rows_above d a (Some (key d first.0.0)) first.0.1) (λ ys. Ok (first.0.0 ∷ ys.0, ys.1)) (rows, rest) first.2 in
      let both = ok_pair (first.0.0 ∷ others.0.0) rows others.0.1 rest others.2 in
      first_read a b last m bytes first.0.0 first.0.1 others.0.0 others.0.1 first.1
      (some_read a b (Some (key d first.0.0)) (finmap.insert m (key d first.0.0) first.0.0) first.0.1 others.0.0 others.0.1 others.1) rows rest both.0 both.1

  pub some_refused : (a b : ℕ) (last : Option Row) (m : Table) (bytes : List ℕ) (left : ℕ) → rows_above d a last bytes ≡ Err left → onto m (rows_above d (a + b) last bytes) ≡ Err left
  some_refused zero b last m bytes left is = cc
  some_refused (suc a) b last m bytes left is = by (row_above d last bytes) refl (some_refused a b)
    where
      more : suc a + b ≡ suc (a + b)
      more = omega arith

      by : (r : Result (Row × List ℕ) ℕ) → row_above d last bytes ≡ r
          → ((last : Option Row) (m : Table) (bytes : List ℕ) (left : ℕ) → rows_above d a last bytes ≡ Err left → onto m (rows_above d (a + b) last bytes) ≡ Err left)
          → onto m (rows_above d (suc a + b) last bytes) ≡ Err left
      by (Err e) at rest =
          let same : ◌≡◌ {A = Result (Rows × List ℕ) ℕ} (Err e) (Err left) = sym (after_one a last bytes (Err e) at) ∙ is in
          ap (λ (n : ℕ). onto m (rows_above d n last bytes)) more
          ∙ ap (λ (r : Result (Rows × List ℕ) ℕ). onto m r) (after_one (a + b) last bytes (Err e) at)
          ∙ ap (λ (r : Result (Rows × List ℕ) ℕ). onto m r) same
      by (Ok x) at rest =
          ap (λ (n : ℕ). onto m (rows_above d n last bytes)) more
          ∙ one_read (a + b) last m bytes x.0 x.1 at
          ∙ rest (Some (key d x.0)) (finmap.insert m (key d x.0) x.0) x.1 left (behind_one x.0 (rows_above d a (Some (key d x.0)) x.1) left (sym (after_one a last bytes (Ok x) at) ∙ is))

-- ---- the table that rising rows make

not_equal : (o : Ordering) → T (is_lt o) → is_eq o ≡ false
not_equal Less e = refl
not_equal Equal e = absurd e
not_equal Greater e = absurd e

not_found : (q : Row) (es : List (Row × Row)) → T (entries.below_all row_cmp q es) → entries.find row_cmp q es ≡ None
not_found q [] below = refl
not_found q (e ∷ es) below =
    ap (λ b. cond b (Some e.1) (entries.find row_cmp q es)) (not_equal (row_cmp q e.0) (and_left (is_lt (row_cmp q e.0)) (entries.below_all row_cmp q es) below))
    ∙ not_found q es (and_right (is_lt (row_cmp q e.0)) (entries.below_all row_cmp q es) below)

module _ (d : TableDef) where
  abbrev keyed : Rows → List (Row × Row)
  keyed rows = map (λ row. (column_values d.key row, row)) rows

  got : (q : Row) (rows : Rows) (m : Table) → T (entries.is_sorted row_cmp (keyed rows)) → finmap.get (put_rows d m rows) q ≡ option_or (entries.find row_cmp q (keyed rows)) (finmap.get m q)
  got q [] m sorted = refl
  got q (row ∷ rows) m sorted =
      got q rows (finmap.insert m (key d row) row) (and_right (entries.below_all row_cmp (key d row) (keyed rows)) (entries.is_sorted row_cmp (keyed rows)) sorted)
      ∙ ap (option_or (entries.find row_cmp q (keyed rows))) (finmap.get-insert row_cmp_total m (key d row) row q)
      ∙ by (eq_by_cmp row_cmp q (key d row)) refl
    where
      by : (b : Bool) → eq_by_cmp row_cmp q (key d row) ≡ b → option_or (entries.find row_cmp q (keyed rows)) (cond b (Some row) (finmap.get m q)) ≡ option_or (cond b (Some row) (entries.find row_cmp q (keyed rows))) (finmap.get m q)
      by false tied = refl
      by true tied =
          let same : key d row ≡ q = sym (row_cmp-IsAntisymmetric q (key d row) ((Equal-is (row_cmp q (key d row))).0 tied)) in
          ap (λ o. option_or o (Some row)) (not_found q (keyed rows) (subst (λ k. T (entries.below_all row_cmp k (keyed rows))) same (and_left (entries.below_all row_cmp (key d row) (keyed rows)) (entries.is_sorted row_cmp (keyed rows)) sorted)))

  from_none : (rows : Rows) → Chained (next d) (IsAbove d) None rows → put_rows d finmap.empty rows ≡ table_with d rows
  from_none rows rise =
      let sorted : T (entries.is_sorted row_cmp (keyed rows)) =
      rising_sorted row_cmp row_cmp_total (keyed rows)
      (chained_map (λ row. (column_values d.key row, row)) (λ (s : Option Row) (e : Row × Row). Some e.0) (λ s e. is_above row_cmp s e.0 ≡ true) None rows rise) in
      finmap.same_map row_cmp_total row_cmp-IsAntisymmetric _ _ (λ q.
      got q rows finmap.empty sorted
      ∙ ap (option_or (entries.find row_cmp q (keyed rows))) (finmap.get-empty row_cmp q)
      ∙ alone (entries.find row_cmp q (keyed rows))
      ∙ sym (finmap.get-from_sorted row_cmp (keyed rows) q sorted))
    where
      alone : (o : Option Row) → option_or o None ≡ o
      alone None = refl
      alone (Some x) = refl

  -- a table without a row, with all that is read
  pub all_onto : (n : ℕ) (bytes : List ℕ) → onto d finmap.empty (rows_above d n None bytes) ≡ made (table_with d) (rows_above d n None) bytes
  all_onto n bytes = by (rows_above d n None bytes) refl
    where
      by : (r : Result (Rows × List ℕ) ℕ) → rows_above d n None bytes ≡ r → onto d finmap.empty r ≡ (r >>> λ x. Ok (table_with d x.0, x.1))
      by (Err left) is = refl
      by (Ok x) is =
          let read = rows_give d n None bytes x.0 x.1 is in
          ap (λ (m : Table). read_so m x.1) (from_none x.0 (rows_rise d None x.0 read.1))

module _ (d : TableDef) where
  abbrev with_count : ℕ → Result (Rows × List ℕ) ℕ → Result ((ℕ × Rows) × List ℕ) ℕ
  with_count n r = r >>> λ xs. Ok ((n, xs.0), xs.1)

  abbrev of_counted : Result ((ℕ × Rows) × List ℕ) ℕ → Result (Rows × List ℕ) ℕ
  of_counted r = r >>> λ x. Ok (x.0.1, x.1)

  abbrev with_table : Result (Rows × List ℕ) ℕ → Result (Table × List ℕ) ℕ
  with_table r = r >>> λ x. Ok (table_with d x.0, x.1)

  alone : (n : ℕ) (r : Result (Rows × List ℕ) ℕ) → with_table (of_counted (with_count n r)) ≡ with_table r
  alone n (Ok x) = refl
  alone n (Err left) = refl

  -- a table behind the number of its rows
  pub behind_count : (bytes : List ℕ) (n : ℕ) (rest : List ℕ) → number_where 8 (may_have d.placement) bytes ≡ read_so n rest → table_of d bytes ≡ made (table_with d) (rows_above d n None) rest
  behind_count bytes n rest is =
      ap (λ (r : Result (ℕ × List ℕ) ℕ). with_table (of_counted (r >>> λ x. with_count x.0 (rows_above d x.0 None x.1)))) is
      ∙ alone n (rows_above d n None rest)

-- the same of what is read otherwise
pub reads_so : {X Y : Type 0} (view : X → Y) (r : Result X PartError) (a b : Result Y ℕ) → b ≡ a → Reads view r a → Reads view r b
reads_so view (Ok x) a b same read = same ∙ read
reads_so view (Err NoMemory) a b same read = tt
reads_so view (Err (Foreign left)) a b same read = same ∙ read
