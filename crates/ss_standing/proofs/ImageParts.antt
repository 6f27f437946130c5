-- The parts of an image: what is read of each is spelled so, and what is spelled is read.
use Rattle.std.proofs.Common.{◌≡◌, ◌∙◌, ℕ, ◌+◌, ◌-◌, ◌^◌, ◌<◌, ◌≤◌, ◌==◌, ◌&&◌, nat_le, List, [], ◌∷◌, ◌++◌, length, map, Bool, true, false, cond, refl, sym, ap, subst, arith, append_assoc, All, Option, Some, None, Result, Ok, Err}
use Rattle.std.specs.List.{flat_map, AllByRecursion}
use Rattle.std.specs.Ordering.{eq_by_cmp, is_eq, is_lt, nat_cmp}
use Rattle.std.specs.Cmp.Lexicographic.{slice_cmp, nat_list_cmp_total}
use Rattle.std.specs.FinMap as finmap
use Rattle.std.specs.FinMap.{entries-from_sorted, entries_sorted, find, get-entries, len-entries}
use Rattle.std.specs.FinMap.Entries.{below_all}
use Rattle.std.specs.declared.cmp.Ordering.TheVariants.{Less, Equal, Greater}
use Rattle.std.specs.declared.cmp.Ordering.{Ordering}
use Rattle.std.specs.Cmp.{Equal-is, IsTotalOrder, eq_by_cmp_equiv}
use Rattle.byteorder.specs.Endian.{big_number}
use Rattle.ss_lemmas.proofs.Bools.{some_same}
use Rattle.ss_lemmas.proofs.Numbers.{eqb_is}
use Rattle.std.proofs.lemmas.Bool.{leb-true, le-leb, and_parts, and_from}
use Rattle.std.proofs.lemmas.List.{length-map}
use Rattle.std.proofs.lemmas.Bool.Decides.{nat_tests}
use Rattle.std.proofs.lemmas.List.Elements.{All-head, All-tail, All-nil, All-cons}
use Rattle.ss_value.specs.declared.schema.Column.{Column}
use Rattle.ss_value.specs.declared.text.ValueError.{ValueError}
use Rattle.ss_value.specs.Fit.{fits_schema}
use Rattle.ss_value.specs.Order.{row_cmp}
use Rattle.ss_value.specs.Rows.{Row, Rows, column_values}
use Rattle.ss_value.specs.ValueOrder.{row_cmp_total, row_cmp-IsAntisymmetric}
use Rattle.ss_value.specs.Words.{is_name}
use Rattle.ss_model.specs.declared.catalog.Catalog.{Catalog}
use Rattle.ss_model.specs.declared.catalog.Placement.{Placement}
use Rattle.ss_model.specs.declared.catalog.Placement.TheVariants.{Part, By}
use Rattle.ss_model.specs.declared.catalog.TableDef.{TableDef}
use Rattle.ss_model.specs.declared.catalog.WindowDef.{WindowDef}
use Rattle.ss_model.specs.Contents.{Table, Window, first_kept}
use Rattle.ss_model.specs.Database.{NextNumbers, has_body, stream_schema}
use Rattle.ss_model.specs.WholeDatabase.{WholeTable, is_within_limit}
use Rattle.ss_model_laws.proofs.CallerLemmas.{of_entries}
use Rattle.ss_record.specs.Numbers.{IsBytes, number_bytes}
use Rattle.ss_record.specs.Spelling.{row_bytes, name_bytes}
use Rattle.ss_record.specs.Bounds.{IsShort, IsTypedRow}
use Rattle.ss_record.specs.Reading.{number_at, row_at}
use Rattle.ss_record.specs.Records.{name_at}
use Rattle.ss_record.proofs.CallerLemmas.{number_again, row_again, name_again, takes_number, row_takes, name_takes, respelled_2, respelled_4, respelled_8}
use Rattle.ss_cmdlog.specs.Reading.{whole, as_field, bytes_at}
use Rattle.ss_cmdlog.proofs.CallerLemmas.{as_field_ok, bytes_again, bytes_takes, read_so, valued, whole_ok}
use Rattle.ss_standing.specs.FitsImage.{FitsTable, FitNumbers}
use Rattle.ss_standing.specs.Image.{text_bytes, counted_rows, table_bytes, window_bytes, stream_bytes, source_bytes, sources_bytes}
use Rattle.ss_standing.specs.Readers.{Reader, IsExact, Chained, followed, is_above, many, passing}
use Rattle.ss_standing.specs.ImageForm.{number_where, as_row, row_of, counted, rows_of, may_have, table_with, row_above, table_of, is_unit, window_of, stream_of, most_of, stream_at, counts_of, may_have_taken, source_above, sources_of, body_of}
use Rattle.ss_standing.proofs.Exact.{passing_exact, followed_exact, made_exact, exact_so, many_exact}
use Rattle.ss_standing.proofs.Chains.{chained_so, chained_all, all_chained, chained_both, chained_map, map_chained}
use Rattle.ss_standing.proofs.Rising.{is_true, rising_sorted, entries_rise, of_own_entries}
use Rattle.ss_standing.proofs.Parts.{entries_by_values}

-- ---- numbers and rows

as_row_ok : (bytes : List ℕ) (r : Result (Row × List ℕ) ValueError) (x : Row) (y : List ℕ) → as_row bytes r ≡ read_so x y → r ≡ valued x y
as_row_ok bytes (Ok z) x y h = let p : ◌≡◌ {A = Row × List ℕ} z (x, y) = cc in ap Ok p
as_row_ok bytes (Err e) x y h = cc

-- numbers of so many bytes are spelled again as they were
abbrev pub Respells : ℕ → Type 0
Respells n = (bytes : List ℕ) → length bytes ≡ n → IsBytes bytes → number_bytes n (big_number n bytes) ≡ bytes

number_exact : (n : ℕ) → Respells n → IsExact (λ bytes. whole (number_at n bytes)) (number_bytes n) (λ x. x < 256 ^ n)
number_exact n respelled = record {
  takes = λ bytes x rest are is. takes_number n respelled bytes x rest are (whole_ok (number_at n bytes) x rest is);
  again = λ x rest fits. ap whole (number_again n x rest fits);
}

pub number_where_exact : (n : ℕ) → Respells n → (test : ℕ → Bool) → IsExact (number_where n test) (number_bytes n) (λ x. (x < 256 ^ n) × (test x ≡ true))
number_where_exact n respelled test = passing_exact test (λ bytes. whole (number_at n bytes)) (number_bytes n) (λ x. x < 256 ^ n) (number_exact n respelled)

row_exact : IsExact (λ bytes. as_row bytes (row_at bytes)) row_bytes (λ row. IsShort row × IsTypedRow row)
row_exact = record {
  takes = λ bytes row rest are is. (let takes = row_takes bytes row rest are (as_row_ok bytes (row_at bytes) row rest is) in (takes.0, takes.2, (takes.1, takes.3)));
  again = λ row rest has. ap (as_row (row_bytes row ++ rest)) (row_again row rest has.0 has.1);
}

-- a row that fits the columns, short and of typed values
abbrev pub IsRowOf : List Column → Row → Type 0
IsRowOf schema row = (IsShort row × IsTypedRow row) × (fits_schema schema row ≡ true)

row_of_exact : (schema : List Column) → IsExact (row_of schema) row_bytes (IsRowOf schema)
row_of_exact schema = passing_exact (fits_schema schema) (λ bytes. as_row bytes (row_at bytes)) row_bytes (λ row. IsShort row × IsTypedRow row) row_exact

-- ---- items behind their number

abbrev IsCounted : {S A : Type 0} → ℕ → (ℕ → Bool) → (S → A → S) → (S → A → Type 0) → S → List A → Type 0
IsCounted size test next P s xs = (length xs < 256 ^ size) × (test (length xs) ≡ true) × Chained next P s xs

pub counted_exact : {S A : Type 0} (size : ℕ) → Respells size → (test : ℕ → Bool) (next : S → A → S) (read : S → Reader A) (spell : A → List ℕ) (P : S → A → Type 0)
    → ((s : S) → IsExact (read s) spell (P s)) → (s : S)
    → IsExact (counted size test next read s) (λ xs. number_bytes size (length xs) ++ flat_map spell xs) (IsCounted size test next P s)
counted_exact {A = A} size respelled test next read spell P exact s =
    made_exact (λ (p : ℕ × List A). p.1) (λ xs. (length xs, xs)) (followed (number_where size test) (λ n. many next read n s))
    (λ (p : ℕ × List A). number_bytes size p.0 ++ flat_map spell p.1) (λ (p : ℕ × List A). ((p.0 < 256 ^ size) × (test p.0 ≡ true)) × ((length p.1 ≡ p.0) × Chained next P s p.1)) (IsCounted size test next P s)
    (followed_exact (number_where size test) (λ n. many next read n s) (number_bytes size) (λ n. flat_map spell) (λ n. (n < 256 ^ size) × (test n ≡ true)) (λ n xs. (length xs ≡ n) × Chained next P s xs)
    (number_where_exact size respelled test) (λ n has. many_exact next read spell P exact n s))
    (λ p has. ((λ k. (has.1.0 k, p.1)), (subst (λ (n : ℕ). n < 256 ^ size) (sym has.1.0) has.0.0, ap test has.1.0 ∙ has.0.1, has.1.1)))
    (λ xs has. (refl, ((has.0, has.1), (refl, has.2))))

-- rows that fit the columns, and as many as may be
pub record AreRowsOf (size : ℕ) (test : ℕ → Bool) (schema : List Column) (rows : Rows) : Type 0 where
  pub long : length rows < 256 ^ size
  pub may : test (length rows) ≡ true
  pub each : All (IsRowOf schema) rows

pub rows_of_exact : (size : ℕ) → Respells size → (test : ℕ → Bool) (schema : List Column) → IsExact (rows_of size test schema) (counted_rows size) (AreRowsOf size test schema)
rows_of_exact size respelled test schema =
    exact_so (rows_of size test schema) (counted_rows size) (counted_rows size) (IsCounted size test (λ (s : Unit {0}) row. s) (λ s row. IsRowOf schema row) tt) (AreRowsOf size test schema)
    (counted_exact size respelled test (λ (s : Unit {0}) row. s) (λ s. row_of schema) row_bytes (λ s row. IsRowOf schema row) (λ s. row_of_exact schema) tt)
    (λ rows has. (refl, record { long = has.0; may = has.1; each = chained_all (λ (s : Unit {0}) row. s) (IsRowOf schema) tt rows has.2 }))
    (λ rows has. (has.long, has.may, all_chained (λ (s : Unit {0}) row. s) (IsRowOf schema) tt rows has.each))

-- ---- tables

-- a whole table that an image has room for
pub record IsTableOf (d : TableDef) (m : Table) : Type 0 where
  pub whole : WholeTable d m
  pub fits : FitsTable m
  pub short : All IsShort (finmap.values m)

within_limit : (p : Placement) (m : Table) (n : ℕ) → finmap.len m ≡ n → is_within_limit p m ≡ may_have p n
within_limit (Part p) m n is = ap (λ n. nat_le n 1000000) is
within_limit (By c) m n is = refl

values_of : (key : Row → Row) (rows : Rows) → map (λ (e : Row × Row). e.1) (map (λ row. (key row, row)) rows) ≡ rows
values_of key [] = refl
values_of key (row ∷ rows) = λ k. row ∷ values_of key rows k

pub all_recursion : {A : Type 0} (P : A → Type 0) (xs : List A) → All P xs → AllByRecursion P xs
all_recursion P [] all = tt
all_recursion P (x ∷ xs) all = (All-head P x xs all, all_recursion P xs (All-tail P x xs all))

pub all_values : (P : Row → Type 0) (es : List (Row × Row)) → AllByRecursion (λ (e : Row × Row). P e.1) es → All P (map (λ (e : Row × Row). e.1) es)
all_values P [] all = All-nil P
all_values P (e ∷ es) all = All-cons P e.1 (map (λ (e : Row × Row). e.1) es) all.0 (all_values P es all.1)

module _ {K X : Type 0} (R : K → K → Ordering) (tells : finmap.IsAntisymmetric R) where
  -- what a look-up finds stands among the entries
  in_entries : (P : K → X → Type 0) (es : List (K × X)) → AllByRecursion (λ (e : K × X). P e.0 e.1) es → (q : K) (x : X) → find R q es ≡ Some x → P q x
  in_entries P [] all q x is = cc
  in_entries P (e ∷ es) all q x is = by (eq_by_cmp R q e.0) refl is (in_entries P es all.1 q x)
    where
      by : (b : Bool) → eq_by_cmp R q e.0 ≡ b → cond b (Some e.1) (find R q es) ≡ Some x → (find R q es ≡ Some x → P q x) → P q x
      by false other is rest = rest is
      by true tied is rest =
          let key : e.0 ≡ q = sym (tells q e.0 ((Equal-is (R q e.0)).0 tied)) in
          let same : e.1 ≡ x = some_same e.1 x is in
          subst (λ (k : K). P k x) key (subst (λ (y : X). P e.0 y) same all.0)

  pub in_map : (P : K → X → Type 0) (m : finmap.FinMap R X) → AllByRecursion (λ (e : K × X). P e.0 e.1) (finmap.entries m) → (q : K) (x : X) → finmap.get m q ≡ Some x → P q x
  in_map P m all q x is = in_entries P (finmap.entries m) all q x (sym (get-entries m q) ∙ is)

less_not_equal : (o : Ordering) → is_lt o ≡ true → is_eq o ≡ false
less_not_equal Less e = refl
less_not_equal Equal e = cc
less_not_equal Greater e = refl

module _ {K X : Type 0} (R : K → K → Ordering) (total : IsTotalOrder R) (tells : finmap.IsAntisymmetric R) where
  -- a key below all keys is not found
  not_found : (q : K) (es : List (K × X)) → below_all R q es ≡ true → find R q es ≡ None
  not_found q [] h = refl
  not_found q (e ∷ es) h =
      let parts = and_parts (is_lt (R q e.0)) (below_all R q es) h in
      ap (λ b. cond b (Some e.1) (find R q es)) (less_not_equal (R q e.0) parts.0) ∙ not_found q es parts.1

  still_first : (e : K × X) (es : List (K × X)) (q : K) (v : X) → finmap.is_sorted R (e ∷ es) ≡ true → find R q es ≡ Some v → find R q (e ∷ es) ≡ Some v
  still_first e es q v sorted f = by (eq_by_cmp R q e.0) refl
    where
      by : (b : Bool) → eq_by_cmp R q e.0 ≡ b → cond b (Some e.1) (find R q es) ≡ Some v
      by false t = f
      by true t =
          let same : q ≡ e.0 = tells q e.0 ((Equal-is (R q e.0)).0 t) in
          let none : None ≡ Some v = sym (not_found e.0 es (and_parts (below_all R e.0 es) (finmap.is_sorted R es) sorted).0) ∙ ap (λ k. find R k es) (sym same) ∙ f in
          cc

  each_found : (P : K → X → Type 0) (es : List (K × X)) → finmap.is_sorted R es ≡ true → ((q : K) (v : X) → find R q es ≡ Some v → P q v) → AllByRecursion (λ (e : K × X). P e.0 e.1) es
  each_found P [] sorted h = tt
  each_found P (e ∷ es) sorted h = (
    h e.0 e.1 (ap (λ b. cond b (Some e.1) (find R e.0 es)) ((eq_by_cmp_equiv total).refl e.0)),
    each_found P es (and_parts (below_all R e.0 es) (finmap.is_sorted R es) sorted).1 (λ q v f. h q v (still_first e es q v sorted f)),
  )

  -- what holds of whatever a look-up finds holds of the entries
  pub of_look_ups : (P : K → X → Type 0) (m : finmap.FinMap R X) → ((q : K) (v : X) → finmap.get m q ≡ Some v → P q v) → AllByRecursion (λ (e : K × X). P e.0 e.1) (finmap.entries m)
  of_look_ups P m h = each_found P (finmap.entries m) (is_true (finmap.is_sorted R (finmap.entries m)) (entries_sorted m)) (λ q v f. h q v (get-entries m q ∙ f))

module _ (d : TableDef) where
  abbrev key : Row → Row
  key row = column_values d.key row

  abbrev keyed : Row → Row × Row
  keyed row = (key row, row)

  abbrev next : Option Row → Row → Option Row
  next last row = Some (key row)

  abbrev IsNextRow : Option Row → Row → Type 0
  IsNextRow last row = IsRowOf d.schema row × (is_above row_cmp last (key row) ≡ true)

  rows_exact : IsExact (counted 8 (may_have d.placement) next (row_above d) None) (counted_rows 8) (IsCounted 8 (may_have d.placement) next IsNextRow None)
  rows_exact = counted_exact 8 respelled_8 (may_have d.placement) next (row_above d) row_bytes IsNextRow (λ last. passing_exact (λ row. is_above row_cmp last (key row)) (row_of d.schema) row_bytes (IsRowOf d.schema) (row_of_exact d.schema)) None

  -- the entries of rows whose keys rise
  entries_are : (rows : Rows) → Chained next IsNextRow None rows → finmap.entries (table_with d rows) ≡ map keyed rows
  entries_are rows chain =
      entries-from_sorted row_cmp (map keyed rows)
      (rising_sorted row_cmp row_cmp_total (map keyed rows)
      (chained_map keyed (λ (s : Option Row) (e : Row × Row). Some e.0) (λ s e. is_above row_cmp s e.0 ≡ true) None rows (chained_so next IsNextRow (λ s row. is_above row_cmp s (key row) ≡ true) (λ s row has. has.1) None rows chain)))

  rows_are : (rows : Rows) → Chained next IsNextRow None rows → finmap.values (table_with d rows) ≡ rows
  rows_are rows chain = ap (map (λ (e : Row × Row). e.1)) (entries_are rows chain) ∙ values_of key rows

  -- what holds of each row at its key holds wherever a look-up finds one
  found : (P : Row → Row → Type 0) (m : Table) → AllByRecursion (λ (e : Row × Row). P e.0 e.1) (finmap.entries m) → (q row : Row) → finmap.get m q ≡ Some row → P q row
  found P m all q row is = in_map row_cmp row_cmp-IsAntisymmetric P m all q row is

  each_keyed : (rows : Rows) → All (IsRowOf d.schema) rows → AllByRecursion (λ (e : Row × Row). (fits_schema d.schema e.1 ≡ true) × (e.0 ≡ key e.1)) (map keyed rows)
  each_keyed [] all = tt
  each_keyed (row ∷ rows) all = (((All-head (IsRowOf d.schema) row rows all).1, refl), each_keyed rows (All-tail (IsRowOf d.schema) row rows all))

  row_facts : (rows : Rows) → Chained next IsNextRow None rows → All (IsRowOf d.schema) rows
  row_facts rows chain = chained_all next (IsRowOf d.schema) None rows (chained_so next IsNextRow (λ s row. IsRowOf d.schema row) (λ s row has. has.0) None rows chain)

  is_table : (rows : Rows) → IsCounted 8 (may_have d.placement) next IsNextRow None rows → IsTableOf d (table_with d rows)
  is_table rows has =
      let m = table_with d rows in
      let facts = row_facts rows has.2 in
      let all : AllByRecursion (λ (e : Row × Row). (fits_schema d.schema e.1 ≡ true) × (e.0 ≡ key e.1)) (finmap.entries m) = subst (AllByRecursion (λ (e : Row × Row). (fits_schema d.schema e.1 ≡ true) × (e.0 ≡ key e.1))) (sym (entries_are rows has.2)) (each_keyed rows facts) in
      let many : finmap.len m ≡ length rows = len-entries m ∙ ap length (entries_are rows has.2) ∙ length-map rows keyed in
      let values = rows_are rows has.2 in
      record {
        whole = record {
          fits = λ q row is. (found (λ q row. (fits_schema d.schema row ≡ true) × (q ≡ key row)) m all q row is).0;
          keyed = λ q row is. (found (λ q row. (fits_schema d.schema row ≡ true) × (q ≡ key row)) m all q row is).1;
          few = within_limit d.placement m (length rows) many ∙ has.1;
        };
        fits = (
          subst (λ (l : Rows). length l < 2 ^ 64) (sym values) has.0,
          subst (All IsTypedRow) (sym values) (λ i x lt. (facts i x lt).0.1),
        );
        short = subst (All IsShort) (sym values) (λ i x lt. (facts i x lt).0.0);
      }

  rows_again : (m : Table) → IsTableOf d m → (table_with d (finmap.values m) ≡ m) × IsCounted 8 (may_have d.placement) next IsNextRow None (finmap.values m)
  rows_again m is =
      let entries : finmap.entries m ≡ map keyed (finmap.values m) = entries_by_values d.key (finmap.entries m) (of_entries (λ q row. q ≡ column_values d.key row) m is.whole.keyed) in
      let rise = map_chained keyed (λ (s : Option Row) (e : Row × Row). Some e.0) (λ s e. is_above row_cmp s e.0 ≡ true) None (finmap.values m)
      (subst (Chained (λ (s : Option Row) (e : Row × Row). Some e.0) (λ s e. is_above row_cmp s e.0 ≡ true) None) entries (entries_rise row_cmp row_cmp_total m)) in
      let many : finmap.len m ≡ length (finmap.values m) = len-entries m ∙ sym (length-map (finmap.entries m) (λ (e : Row × Row). e.1)) in
      let fits = all_values (λ row. fits_schema d.schema row ≡ true) (finmap.entries m) (of_entries (λ q row. fits_schema d.schema row ≡ true) m is.whole.fits) in (
        ap (finmap.from_sorted {R = row_cmp}) (sym entries) ∙ of_own_entries row_cmp row_cmp_total m,
        (
          is.fits.0,
          sym (within_limit d.placement m (length (finmap.values m)) many) ∙ is.whole.few,
          chained_both next (λ s row. IsRowOf d.schema row) (λ s row. is_above row_cmp s (key row) ≡ true) None (finmap.values m)
              (all_chained next (IsRowOf d.schema) None (finmap.values m) (λ i x lt. ((is.short i x lt, is.fits.1 i x lt), fits i x lt))) rise,
        ),
      )

  pub table_exact : IsExact (table_of d) table_bytes (IsTableOf d)
  table_exact =
      made_exact (table_with d) (λ (m : Table). finmap.values m) (counted 8 (may_have d.placement) next (row_above d) None) (counted_rows 8) (IsCounted 8 (may_have d.placement) next IsNextRow None) (IsTableOf d) rows_exact
      (λ rows has. (rows_are rows has.2, is_table rows has)) rows_again

-- ---- windows

abbrev pub IsUnitOf : WindowDef → Rows → Type 0
IsUnitOf d unit = AreRowsOf 8 (is_unit d.unit) d.schema unit

-- so many units, of which those are kept that may still be seen
pub record IsWindowOf (d : WindowDef) (w : ℕ × Window) : Type 0 where
  pub few : w.0 ≤ 2 ^ 62
  pub kept : first_kept d w.0 + length w.1 ≡ w.0
  pub long : length w.1 < 2 ^ 32
  pub units : All (IsUnitOf d) w.1

pub equal_is : (m n : ℕ) → m ≡ n → (m == n) ≡ true
equal_is m n e = grind (arith, nat_tests)

module _ (d : WindowDef) where
  abbrev has_kept : ℕ → ℕ → Bool
  has_kept k n = first_kept d k + n == k

  abbrev next_unit : Unit {0} → Rows → Unit {0}
  next_unit s unit = s

  abbrev IsReadWindow : ℕ × Window → Type 0
  IsReadWindow w = ((w.0 < 256 ^ 8) × (nat_le w.0 (2 ^ 62) ≡ true)) × IsCounted 4 (has_kept w.0) next_unit (λ s unit. IsUnitOf d unit) tt w.1

  pub window_exact : IsExact (window_of d) window_bytes (IsWindowOf d)
  window_exact =
      exact_so (window_of d) (λ (w : ℕ × Window). number_bytes 8 w.0 ++ (number_bytes 4 (length w.1) ++ flat_map (counted_rows 8) w.1)) window_bytes IsReadWindow (IsWindowOf d)
      (followed_exact (number_where 8 (λ k. nat_le k (2 ^ 62))) (λ k. counted 4 (has_kept k) next_unit (λ (s : Unit {0}). rows_of 8 (is_unit d.unit) d.schema) tt)
      (number_bytes 8) (λ k (us : Window). number_bytes 4 (length us) ++ flat_map (counted_rows 8) us) (λ k. (k < 256 ^ 8) × (nat_le k (2 ^ 62) ≡ true)) (λ k us. IsCounted 4 (has_kept k) next_unit (λ s unit. IsUnitOf d unit) tt us)
      (number_where_exact 8 respelled_8 (λ k. nat_le k (2 ^ 62)))
      (λ k has. counted_exact 4 respelled_4 (has_kept k) next_unit (λ (s : Unit {0}). rows_of 8 (is_unit d.unit) d.schema) (counted_rows 8) (λ s unit. IsUnitOf d unit) (λ s. rows_of_exact 8 respelled_8 (is_unit d.unit) d.schema) tt))
      (λ w has. (
        sym (append_assoc (number_bytes 8 w.0) (number_bytes 4 (length w.1)) (flat_map (counted_rows 8) w.1)),
        record {
          few = leb-true w.0 (2 ^ 62) has.0.1;
          kept = eqb_is (first_kept d w.0 + length w.1) w.0 has.1.1;
          long = has.1.0;
          units = chained_all next_unit (IsUnitOf d) tt w.1 has.1.2;
        },
      ))
      (λ w is. ((omega (arith, is.few), le-leb w.0 (2 ^ 62) is.few), (is.long, equal_is (first_kept d w.0 + length w.1) w.0 is.kept, all_chained next_unit (IsUnitOf d) tt w.1 is.units)))

-- ---- streams

abbrev pub IsBatchOf : List Column → Rows → Type 0
IsBatchOf schema batch = AreRowsOf 2 (λ n. nat_le n 1024) schema batch

-- so many batches, at most as many as given, of which those are kept from a first one on
pub record IsStreamOf (most : ℕ) (schema : List Column) (s : ℕ × (ℕ × List Rows)) : Type 0 where
  pub had : s.0 ≤ most
  pub long : s.0 < 2 ^ 64
  pub first : s.1.0 ≤ s.0
  pub kept : length s.1.1 ≡ s.0 - s.1.0
  pub batches : All (IsBatchOf schema) s.1.1

module _ (most : ℕ) (schema : List Column) where
  abbrev next_batch : Unit {0} → Rows → Unit {0}
  next_batch s batch = s

  abbrev batches_of : ℕ → ℕ → Reader (List Rows)
  batches_of had first = many next_batch (λ (s : Unit {0}). rows_of 2 (λ n. nat_le n 1024) schema) (had - first) tt

  abbrev AreBatches : ℕ → ℕ → List Rows → Type 0
  AreBatches had first batches = (length batches ≡ had - first) × Chained next_batch (λ s batch. IsBatchOf schema batch) tt batches

  abbrev rest_of : ℕ → Reader (ℕ × List Rows)
  rest_of had = followed (number_where 8 (λ first. nat_le first had)) (batches_of had)

  abbrev IsRest : ℕ → ℕ × List Rows → Type 0
  IsRest had r = ((r.0 < 256 ^ 8) × (nat_le r.0 had ≡ true)) × AreBatches had r.0 r.1

  rest_exact : (had : ℕ) → IsExact (rest_of had) (λ (r : ℕ × List Rows). number_bytes 8 r.0 ++ flat_map (counted_rows 2) r.1) (IsRest had)
  rest_exact had =
      followed_exact (number_where 8 (λ first. nat_le first had)) (batches_of had) (number_bytes 8) (λ first. flat_map (counted_rows 2)) (λ first. (first < 256 ^ 8) × (nat_le first had ≡ true)) (AreBatches had)
      (number_where_exact 8 respelled_8 (λ first. nat_le first had))
      (λ first has. many_exact next_batch (λ (s : Unit {0}). rows_of 2 (λ n. nat_le n 1024) schema) (counted_rows 2) (λ s batch. IsBatchOf schema batch) (λ s. rows_of_exact 2 respelled_2 (λ n. nat_le n 1024) schema) (had - first) tt)

  abbrev IsReadStream : ℕ × (ℕ × List Rows) → Type 0
  IsReadStream s = ((s.0 < 256 ^ 8) × (nat_le s.0 most ≡ true)) × IsRest s.0 s.1

  pub stream_exact : IsExact (stream_of most schema) stream_bytes (IsStreamOf most schema)
  stream_exact =
      exact_so (stream_of most schema) (λ (s : ℕ × (ℕ × List Rows)). number_bytes 8 s.0 ++ (number_bytes 8 s.1.0 ++ flat_map (counted_rows 2) s.1.1)) stream_bytes IsReadStream (IsStreamOf most schema)
      (followed_exact (number_where 8 (λ n. nat_le n most)) rest_of (number_bytes 8) (λ had (r : ℕ × List Rows). number_bytes 8 r.0 ++ flat_map (counted_rows 2) r.1)
      (λ n. (n < 256 ^ 8) × (nat_le n most ≡ true)) IsRest (number_where_exact 8 respelled_8 (λ n. nat_le n most)) (λ had has. rest_exact had))
      (λ s has. (
        sym (append_assoc (number_bytes 8 s.0) (number_bytes 8 s.1.0) (flat_map (counted_rows 2) s.1.1)),
        record {
          had = leb-true s.0 most has.0.1;
          long = omega (arith, has.0.0);
          first = leb-true s.1.0 s.0 has.1.0.1;
          kept = has.1.1.0;
          batches = chained_all next_batch (IsBatchOf schema) tt s.1.1 has.1.1.1;
        },
      ))
      (λ s is. ((omega (arith, is.long), le-leb s.0 most is.had), ((omega (arith, is.long, is.first), le-leb s.1.0 s.0 is.first), (is.kept, all_chained next_batch (IsBatchOf schema) tt s.1.1 is.batches))))

-- the stream of this number
abbrev pub IsStreamAt : Catalog → ℕ → ℕ → ℕ × (ℕ × List Rows) → Type 0
IsStreamAt catalog most s = IsStreamOf (most_of catalog most s) (stream_schema catalog s)

pub stream_at_exact : (catalog : Catalog) (most s : ℕ) → IsExact (stream_at catalog most s) stream_bytes (IsStreamAt catalog most s)
stream_at_exact catalog most s = stream_exact (most_of catalog most s) (stream_schema catalog s)

-- ---- counts

-- as many counts as procedures, each of which may be behind those before it
pub record AreCountsOf (catalog : Catalog) (streams : List (ℕ × (ℕ × List Rows))) (counts : List ℕ) : Type 0 where
  pub many : length counts ≡ length catalog.procedures
  pub each : Chained (λ before n. before ++ n ∷ []) (λ before n. (n < 256 ^ 8) × (may_have_taken catalog streams before n ≡ true)) [] counts

pub counts_exact : (catalog : Catalog) (streams : List (ℕ × (ℕ × List Rows))) → IsExact (counts_of catalog streams) (flat_map (number_bytes 8)) (AreCountsOf catalog streams)
counts_exact catalog streams =
    exact_so (counts_of catalog streams) (flat_map (number_bytes 8)) (flat_map (number_bytes 8))
    (λ counts. (length counts ≡ length catalog.procedures) × Chained (λ before n. before ++ n ∷ []) (λ before n. (n < 256 ^ 8) × (may_have_taken catalog streams before n ≡ true)) [] counts) (AreCountsOf catalog streams)
    (many_exact (λ before n. before ++ n ∷ []) (λ before. number_where 8 (may_have_taken catalog streams before)) (number_bytes 8) (λ before n. (n < 256 ^ 8) × (may_have_taken catalog streams before n ≡ true))
    (λ before. number_where_exact 8 respelled_8 (may_have_taken catalog streams before)) (length catalog.procedures) [])
    (λ counts has. (refl, record { many = has.0; each = has.1 }))
    (λ counts are. (are.many, are.each))

-- ---- sources

-- a next number from 1 to 2^63
abbrev pub IsNext : List ℕ × ℕ → Type 0
IsNext source = (1 ≤ source.1) × (source.1 ≤ 2 ^ 63)

pub record AreSources (m : NextNumbers) : Type 0 where
  pub fits : FitNumbers m
  pub numbers : All IsNext (finmap.entries m)

name_exact : IsExact (λ bytes. as_field bytes (name_at bytes)) name_bytes (λ t. is_name t ≡ true)
name_exact = record {
  takes = λ bytes t rest are is. name_takes bytes t rest are (as_field_ok bytes (name_at bytes) t rest is);
  again = λ t rest is. ap (as_field (name_bytes t ++ rest)) (name_again t rest is);
}

abbrev may_be_next : ℕ → Bool
may_be_next n = nat_le 1 n && nat_le n (2 ^ 63)

abbrev IsSourceAbove : Option (List ℕ) → List ℕ × ℕ → Type 0
IsSourceAbove last source = ((is_name source.0 ≡ true) × (is_above (slice_cmp nat_cmp) last source.0 ≡ true)) × ((source.1 < 256 ^ 8) × (may_be_next source.1 ≡ true))

source_exact : (last : Option (List ℕ)) → IsExact (source_above last) source_bytes (IsSourceAbove last)
source_exact last =
    followed_exact (passing (is_above (slice_cmp nat_cmp) last) (λ bytes. as_field bytes (name_at bytes))) (λ name. number_where 8 may_be_next) name_bytes (λ name. number_bytes 8)
    (λ t. (is_name t ≡ true) × (is_above (slice_cmp nat_cmp) last t ≡ true)) (λ name n. (n < 256 ^ 8) × (may_be_next n ≡ true))
    (passing_exact (is_above (slice_cmp nat_cmp) last) (λ bytes. as_field bytes (name_at bytes)) name_bytes (λ t. is_name t ≡ true) name_exact)
    (λ name has. number_where_exact 8 respelled_8 may_be_next)

abbrev next_source : Option (List ℕ) → List ℕ × ℕ → Option (List ℕ)
next_source last source = Some source.0

abbrev AreEntries : List (List ℕ × ℕ) → Type 0
AreEntries = IsCounted 8 (λ n. true) next_source IsSourceAbove None

own_entries : (es : List (List ℕ × ℕ)) → AreEntries es → finmap.entries (finmap.from_sorted {R = slice_cmp nat_cmp} es) ≡ es
own_entries es has =
    entries-from_sorted (slice_cmp nat_cmp) es
    (rising_sorted (slice_cmp nat_cmp) nat_list_cmp_total es (chained_so next_source IsSourceAbove (λ s e. is_above (slice_cmp nat_cmp) s e.0 ≡ true) (λ s e has. has.0.1) None es has.2))

source_facts : (es : List (List ℕ × ℕ)) → AreEntries es → All (λ (e : List ℕ × ℕ). (is_name e.0 ≡ true) × IsNext e) es
source_facts es has =
    chained_all next_source (λ (e : List ℕ × ℕ). (is_name e.0 ≡ true) × IsNext e) None es
    (chained_so next_source IsSourceAbove (λ s e. (is_name e.0 ≡ true) × IsNext e)
    (λ s e is. (let parts = and_parts (nat_le 1 e.1) (nat_le e.1 (2 ^ 63)) is.1.1 in (is.0.0, (leb-true 1 e.1 parts.0, leb-true e.1 (2 ^ 63) parts.1)))) None es has.2)

are_sources : (es : List (List ℕ × ℕ)) → AreEntries es → AreSources (finmap.from_sorted {R = slice_cmp nat_cmp} es)
are_sources es has =
    let m = finmap.from_sorted {R = slice_cmp nat_cmp} es in
    let own = own_entries es has in
    let facts = source_facts es has in
    record {
      fits = (
        omega (arith, has.0, len-entries m, ap length own),
        subst (All (λ (next : List ℕ × ℕ). next.1 < 2 ^ 64)) (sym own) (λ i x lt. (let is = (facts i x lt).1.1 in omega (arith, is))),
        subst (All (λ (next : List ℕ × ℕ). is_name next.0 ≡ true)) (sym own) (λ i x lt. (facts i x lt).0),
      );
      numbers = subst (All IsNext) (sym own) (λ i x lt. (facts i x lt).1);
    }

sources_again : (m : NextNumbers) → AreSources m → (finmap.from_sorted {R = slice_cmp nat_cmp} (finmap.entries m) ≡ m) × AreEntries (finmap.entries m)
sources_again m are = (
  of_own_entries (slice_cmp nat_cmp) nat_list_cmp_total m,
  (
    omega (arith, are.fits.0, len-entries m),
    refl,
    chained_so next_source (λ s e. ((is_name e.0 ≡ true) × IsNext e) × (is_above (slice_cmp nat_cmp) s e.0 ≡ true)) IsSourceAbove
        (λ s e has. ((has.0.0, has.1), (let top = has.0.1.1 in omega (arith, top), and_from (nat_le 1 e.1) (nat_le e.1 (2 ^ 63)) (le-leb 1 e.1 has.0.1.0) (le-leb e.1 (2 ^ 63) has.0.1.1)))) None (finmap.entries m)
        (chained_both next_source (λ s e. (is_name e.0 ≡ true) × IsNext e) (λ s e. is_above (slice_cmp nat_cmp) s e.0 ≡ true) None (finmap.entries m)
        (all_chained next_source (λ (e : List ℕ × ℕ). (is_name e.0 ≡ true) × IsNext e) None (finmap.entries m) (λ i x lt. (are.fits.2 i x lt, are.numbers i x lt)))
        (entries_rise (slice_cmp nat_cmp) nat_list_cmp_total m)),
  ),
)

pub sources_exact : IsExact sources_of sources_bytes AreSources
sources_exact =
    exact_so sources_of (λ (m : NextNumbers). number_bytes 8 (length (finmap.entries m)) ++ flat_map source_bytes (finmap.entries m)) sources_bytes AreSources AreSources
    (made_exact (finmap.from_sorted {R = slice_cmp nat_cmp}) (λ (m : NextNumbers). finmap.entries m) (counted 8 (λ n. true) next_source source_above None) (λ es. number_bytes 8 (length es) ++ flat_map source_bytes es) AreEntries AreSources
    (counted_exact 8 respelled_8 (λ n. true) next_source source_above source_bytes IsSourceAbove source_exact None)
    (λ es has. (own_entries es has, are_sources es has)) sources_again)
    (λ m are. (ap (λ n. number_bytes 8 n ++ flat_map source_bytes (finmap.entries m)) (sym (len-entries m)), are))
    (λ m are. are)

-- ---- bodies

-- the text of a body that a procedure may have, and that its length has room for
pub record IsBodyOf (catalog : Catalog) (q : ℕ) (text : List ℕ) : Type 0 where
  pub short : length text < 256 ^ 4
  pub may : has_body catalog q text ≡ true

bytes_exact : (n : ℕ) → IsExact (bytes_at n) (λ text. text) (λ text. length text ≡ n)
bytes_exact n = record {
  takes = λ bytes text rest are is. bytes_takes n bytes text rest are is;
  again = λ text rest long. subst (λ (m : ℕ). bytes_at m (text ++ rest) ≡ read_so text rest) long (bytes_again text rest);
}

pub body_exact : (catalog : Catalog) (q : ℕ) → IsExact (body_of catalog q) text_bytes (IsBodyOf catalog q)
body_exact catalog q =
    made_exact (λ (p : ℕ × List ℕ). p.1) (λ text. (length text, text)) (followed (number_where 4 (λ n. true)) (λ n. passing (has_body catalog q) (bytes_at n)))
    (λ (p : ℕ × List ℕ). number_bytes 4 p.0 ++ p.1) (λ (p : ℕ × List ℕ). ((p.0 < 256 ^ 4) × (true ≡ true)) × ((length p.1 ≡ p.0) × (has_body catalog q p.1 ≡ true))) (IsBodyOf catalog q)
    (followed_exact (number_where 4 (λ n. true)) (λ n. passing (has_body catalog q) (bytes_at n)) (number_bytes 4) (λ n text. text) (λ n. (n < 256 ^ 4) × (true ≡ true)) (λ n text. (length text ≡ n) × (has_body catalog q text ≡ true))
    (number_where_exact 4 respelled_4 (λ n. true)) (λ n has. passing_exact (has_body catalog q) (bytes_at n) (λ text. text) (λ text. length text ≡ n) (bytes_exact n)))
    (λ p has. ((λ k. (has.1.0 k, p.1)), record { short = subst (λ (n : ℕ). n < 256 ^ 4) (sym has.1.0) has.0.0; may = has.1.1 }))
    (λ text is. (refl, ((is.short, refl), (refl, is.may))))
