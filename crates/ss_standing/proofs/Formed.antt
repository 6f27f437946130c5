-- What has the form of an image is kept of a whole database.
use Rattle.std.proofs.Common.{◌≡◌, ◌∙◌, ⊎_elim, ℕ, suc, ◌+◌, ◌-◌, ◌^◌, ◌<◌, ◌≤◌, ◌==◌, ◌&&◌, ◌||◌, nat_le, min, List, [], ◌∷◌, ◌++◌, length, map, get_or, drop, replicate, slice_get, Bool, true, false, cond, refl, sym, ap, subst, arith, All, Some, None, length-append}
use Rattle.std.proofs.Common.{drop_at}
use Rattle.std.specs.List.{fold, list_all, list_any, range_with_len}
use Rattle.std.specs.Ordering.{nat_cmp}
use Rattle.std.specs.Cmp.Lexicographic.{slice_cmp}
use Rattle.std.specs.FinMap as finmap
use Rattle.std.specs.FinMap.{get-empty, nat_cmp-IsAntisymmetric, slice_cmp-IsAntisymmetric}
use Rattle.std.proofs.lemmas.Bool.{and_from, cases_lt}
use Rattle.std.proofs.lemmas.List.{get_or-map, get_or_past, length-map, length-replicate}
use Rattle.std.proofs.lemmas.List.Elements.{All-head, All-tail}
use Rattle.std.proofs.lemmas.List.FromFn.{length-range_with_len, get_or-range_with_len}
use Rattle.std.proofs.lemmas.Option.{slice_get_cases, slice_get-get_or, slice_get_within, get_or_from_slice_get}
use Rattle.std.proofs.Math.Seq.{drop-nil}
use Rattle.ss_lemmas.proofs.Bools.{at_index, first_of_two, second_of_two}
use Rattle.ss_lemmas.proofs.Numbers.{eqb_self}
use Rattle.ss_value.specs.Fit.{fits_schema}
use Rattle.ss_value.specs.Rows.{Rows}
use Rattle.ss_value.specs.declared.schema.Column.{Column}
use Rattle.ss_value.specs.declared.Unit.{Unit as UnitKind}
use Rattle.ss_value.specs.declared.Unit.TheVariants.{Rows as RowsUnit, Batches as BatchesUnit}
use Rattle.ss_model.specs.declared.catalog.Catalog.{Catalog}
use Rattle.ss_model.specs.declared.catalog.ProcedureKind.{ProcedureKind}
use Rattle.ss_model.specs.declared.catalog.ProcedureKind.TheVariants.{Call as CallKind, Border, Interior}
use Rattle.ss_model.specs.declared.catalog.Procedure.{Procedure}
use Rattle.ss_model.specs.declared.catalog.TableDef.{TableDef}
use Rattle.ss_model.specs.declared.catalog.WindowDef.{WindowDef}
use Rattle.ss_model.specs.CatalogForm.{inputs_of_kind, is_of_kind}
use Rattle.ss_model.specs.Accepted.{Accepted}
use Rattle.ss_model.specs.Results.{map_indexed}
use Rattle.ss_model.specs.Contents.{Window, default_window, first_kept, kept_units, table_at, window_def, window_units}
use Rattle.ss_model.specs.Database.{Database, NextNumbers, batch_count, has_body, is_border, is_border_stream, is_inner_stream, is_call, stream_batches, stream_schema, takes_stream}
use Rattle.ss_model.specs.InStep.{IsInStep}
use Rattle.ss_model.specs.Orders.{procedure_has, procedure_takes}
use Rattle.ss_model.specs.Settling.{Kept, kept, least_count}
use Rattle.ss_model.specs.WholeDatabase.{WholeDatabase, WholeContents, WholeTable, WholeWindow, NextNumberFits, HadAtMost, batch_fits, has_unit_size, unit_fits}
use Rattle.ss_record.specs.Bounds.{IsTypedRow}
use Rattle.ss_model.proofs.CallerLemmas.{emitter_there, taker_there}
use Rattle.ss_model_laws.proofs.CallerLemmas.{empty_whole, within_streams}
use Rattle.ss_standing.specs.FitsImage.{FitsTable, FitsWindow, FitsStream, FitNumbers, FitBodies, FitsImage}
use Rattle.ss_standing.specs.ImageForm.{IsKeptOf, is_unit, may_have_taken, most_of, no_batches, takes_last}
use Rattle.ss_standing.proofs.Chains.{as_many, for_each_one, are_all, chained_all, chained_so}
use Rattle.ss_standing.proofs.Places.{least_within, made_again, some_last}
use Rattle.ss_standing.proofs.ImageParts.{AreRowsOf, IsTableOf, IsUnitOf, IsWindowOf, IsBatchOf, IsStreamOf, IsStreamAt, IsNext, IsBodyOf, all_recursion, in_map}
use Rattle.ss_standing.proofs.KeptExact.{IsSourcesAt, no_sources_are, AreBodies, HasForm}
use Rattle.ss_standing.proofs.Counted.{AllGoTogether, all_together}

-- ---- lists with blank items before those that are kept

abbrev pub behind_blanks : ℕ → List Rows → List Rows
behind_blanks n kept = replicate n [] ++ kept

pub length-behind_blanks : (n : ℕ) (us : List Rows) → length (behind_blanks n us) ≡ n + length us
length-behind_blanks n us = length-append (replicate n []) us ∙ ap (λ m. m + length us) (length-replicate n [])

pub drop-behind_blanks : (n : ℕ) (us : List Rows) → drop n (behind_blanks n us) ≡ us
drop-behind_blanks n us = drop_at (replicate n []) us n (length-replicate n [])

-- the units that a window has had, of which those are blank that are not kept
abbrev pub all_units : ℕ × Window → Window
all_units w = behind_blanks (w.0 - length w.1) w.1

-- and the batches of a stream
abbrev pub all_batches : ℕ × (ℕ × List Rows) → List Rows
all_batches s = behind_blanks s.1.0 s.1.1

pub units_again : (d : WindowDef) (w : ℕ × Window) → IsWindowOf d w → ◌≡◌ {A = ℕ × Window} (length (all_units w), kept_units d (all_units w)) w
units_again d w is =
    let long : length (all_units w) ≡ w.0 = length-behind_blanks (w.0 - length w.1) w.1 ∙ (let le = is.kept in omega (arith, le)) in
    let first : first_kept d (length (all_units w)) ≡ w.0 - length w.1 = ap (first_kept d) long ∙ (let le = is.kept in omega (arith, le)) in
    λ k. (long k, (ap (λ n. drop n (all_units w)) first ∙ drop-behind_blanks (w.0 - length w.1) w.1) k)

length-all_batches : (most : ℕ) (schema : List Column) (s : ℕ × (ℕ × List Rows)) → IsStreamOf most schema s → length (all_batches s) ≡ s.0
length-all_batches most schema s is = length-behind_blanks s.1.0 s.1.1 ∙ (let first = is.first in let kept = is.kept in omega (arith, first, kept))

-- a list without a batch
no_batch : (bs : List Rows) → length bs ≡ 0 → bs ≡ []
no_batch [] none = refl
no_batch (b ∷ bs) none = absurd (omega (arith, none))

-- no stream has had more batches than one may have had
most_within : (catalog : Catalog) (most s : ℕ) → most_of catalog most s ≤ most
most_within catalog most s = by (is_inner_stream catalog s)
  where
    by : (inner : Bool) → cond inner 0 most ≤ most
    by true = omega arith
    by false = omega arith

-- ---- rows

list_all_from : {A : Type 0} (test : A → Bool) (xs : List A) → All (λ x. test x ≡ true) xs → list_all test xs ≡ true
list_all_from test [] all = refl
list_all_from test (x ∷ xs) all = and_from (test x) (list_all test xs) (All-head (λ x. test x ≡ true) x xs all) (list_all_from test xs (All-tail (λ x. test x ≡ true) x xs all))

pub unit_size : (kind : UnitKind) (unit : Rows) → is_unit kind (length unit) ≡ has_unit_size kind unit
unit_size RowsUnit unit = refl
unit_size BatchesUnit unit = refl

rows_fit : (size : ℕ) (test : ℕ → Bool) (schema : List Column) (rows : Rows) → AreRowsOf size test schema rows → list_all (fits_schema schema) rows ≡ true
rows_fit size test schema rows are = list_all_from (fits_schema schema) rows (λ i x lt. (are.each i x lt).1)

unit_is_fit : (d : WindowDef) (unit : Rows) → IsUnitOf d unit → unit_fits d unit ≡ true
unit_is_fit d unit is = and_from (has_unit_size d.unit unit) (list_all (fits_schema d.schema) unit) (sym (unit_size d.unit unit) ∙ is.may) (rows_fit 8 (is_unit d.unit) d.schema unit is)

batch_is_fit : (schema : List Column) (batch : Rows) → IsBatchOf schema batch → batch_fits schema batch ≡ true
batch_is_fit schema batch is = and_from (nat_le (length batch) 1024) (list_all (fits_schema schema) batch) is.may (rows_fit 2 (λ n. nat_le n 1024) schema batch is)

-- ---- what takes a stream

some_index : {A : Type 0} (p : A → Bool) (xs : List A) → list_any p xs ≡ true → (i : ℕ) × (x : A) × (slice_get xs i ≡ Some x) × (p x ≡ true)
some_index p [] any = cc
some_index p (x ∷ xs) any = by (p x) refl (some_index p xs) any
  where
    by : (b : Bool) → p x ≡ b → (list_any p xs ≡ true → (i : ℕ) × (y : _) × (slice_get xs i ≡ Some y) × (p y ≡ true)) → (b || list_any p xs) ≡ true → (i : ℕ) × (y : _) × (slice_get (x ∷ xs) i ≡ Some y) × (p y ≡ true)
    by true is rest any = (0, x, refl, is)
    by false is rest any = let found = rest any in (suc found.0, found.1, found.2, found.3)

-- a procedure that is no call one takes a stream
some_input : (kind : ProcedureKind) (inputs : List ℕ) → is_call kind ≡ false → inputs_of_kind kind inputs ≡ true → (s : ℕ) × (list_any (λ i. i == s) inputs ≡ true)
some_input CallKind inputs other suits = cc
some_input Border [] other suits = cc
some_input Border (i ∷ inputs) other suits = (i, (λ k. eqb_self i k || list_any (λ j. j == i) inputs))
some_input Interior [] other suits = cc
some_input Interior (i ∷ inputs) other suits = (i, (λ k. eqb_self i k || list_any (λ j. j == i) inputs))

module _ (catalog : Catalog) (accepted : Accepted catalog) where
  takes_by : (q s : ℕ) (p : Procedure) → slice_get catalog.procedures q ≡ Some p → takes_stream s p ≡ true → procedure_takes catalog q s ≡ true
  takes_by q s p is takes = ap (procedure_has (takes_stream s)) is ∙ takes

  -- each stream that is no inner one has a procedure that takes it
  taker : (s : ℕ) → s < length catalog.streams → is_inner_stream catalog s ≡ false → (q : ℕ) × (procedure_takes catalog q s ≡ true)
  taker s there outer = ⊎_elim
      (λ (border : is_border_stream catalog s ≡ true).
      (let found = some_index (λ p. is_border p.kind && takes_stream s p) catalog.procedures border in
      (found.0, takes_by found.0 s found.1 found.2 (second_of_two (is_border found.1.kind) (takes_stream s found.1) found.3))))
      (λ emitter. accepted.structure.streams.taken emitter.0 s emitter.1)
      (accepted.structure.streams.fed s there outer)

  pub last_taker : (s : ℕ) → s < length catalog.streams → is_inner_stream catalog s ≡ false → (q : ℕ) × (q < length catalog.procedures) × (takes_last catalog q s ≡ true)
  last_taker s there outer =
      let some = taker s there outer in
      some_last (λ p. procedure_takes catalog p s) (length catalog.procedures) some.0 (taker_there catalog some.0 s some.1) some.1

  -- a procedure that is no call one takes a stream
  pub taken_by : (q : ℕ) (p : Procedure) → slice_get catalog.procedures q ≡ Some p → is_call p.kind ≡ false → (s : ℕ) × (procedure_takes catalog q s ≡ true)
  taken_by q p is other =
      let kinds : is_of_kind p ≡ true = at_index is_of_kind catalog.procedures (second_of_two _ _ accepted.form) q p is in
      let input = some_input p.kind p.inputs other (first_of_two _ _ (first_of_two _ _ kinds)) in
      (input.0, takes_by q input.0 p is input.1)

  -- the bodies that are read are as many as there are procedures, each a body that its procedure may have, and an image has room for them
  texts_count : (bodies : Bool) (texts : List (List ℕ)) → AreBodies bodies catalog texts → length texts ≡ length catalog.procedures
  texts_count true texts are = as_many (IsBodyOf catalog) (range_with_len 0 (length catalog.procedures)) texts are ∙ length-range_with_len 0 (length catalog.procedures)
  texts_count false texts are = ap (λ (ts : List (List ℕ)). length ts) are ∙ (empty_whole catalog accepted).body_count

  texts_may : (bodies : Bool) (texts : List (List ℕ)) → AreBodies bodies catalog texts → (q : ℕ) (p : Procedure) → slice_get catalog.procedures q ≡ Some p → has_body catalog q (get_or texts q []) ≡ true
  texts_may true texts are q p is =
      let there = slice_get_within catalog.procedures q p is in
      let same : 0 + q ≡ q = omega arith in
      let number : slice_get (range_with_len 0 (length catalog.procedures)) q ≡ Some q =
      slice_get-get_or (range_with_len 0 (length catalog.procedures)) q 0 (omega (arith, there, length-range_with_len 0 (length catalog.procedures))) ∙ ap Some (get_or-range_with_len 0 (length catalog.procedures) q 0 there ∙ same) in
      (for_each_one (IsBodyOf catalog) (range_with_len 0 (length catalog.procedures)) texts q q [] are number).may
  texts_may false texts are q p is = subst (λ (ts : List (List ℕ)). has_body catalog q (get_or ts q []) ≡ true) (sym are) ((empty_whole catalog accepted).bodies q p is)

  texts_fit : (bodies : Bool) (texts : List (List ℕ)) → AreBodies bodies catalog texts → FitBodies bodies catalog texts
  texts_fit true texts are =
      are_all (IsBodyOf catalog) (λ (t : List ℕ). length t < 2 ^ 32) (λ q t is. (let short = is.short in omega (arith, short))) (range_with_len 0 (length catalog.procedures)) texts are
  texts_fit false texts are = are

  module _ (bodies : Bool) (most : ℕ) (k : Kept) (form : HasForm bodies catalog most k) where
    abbrev db : Database
    db = record {
      contents = record { tables = k.tables; windows = map all_units k.windows };
      streams = map all_batches k.streams;
      counts = k.counts;
      next_numbers = k.next_numbers;
      bodies = k.bodies;
    }

    go : AllGoTogether catalog k.streams k.counts
    go = all_together catalog k.streams k.counts form.counts

    abbrev stream : ℕ → ℕ × (ℕ × List Rows)
    stream s = get_or k.streams s no_batches

    abbrev streams : List ℕ
    streams = range_with_len 0 (length catalog.streams)

    stream_number : (s : ℕ) → s < length catalog.streams → slice_get streams s ≡ Some s
    stream_number s there =
        let same : 0 + s ≡ s = omega arith in
        slice_get-get_or streams s 0 (omega (arith, there, length-range_with_len 0 (length catalog.streams))) ∙ ap Some (get_or-range_with_len 0 (length catalog.streams) s 0 there ∙ same)

    many_streams : length k.streams ≡ length catalog.streams
    many_streams = as_many (IsStreamAt catalog most) streams k.streams form.streams ∙ length-range_with_len 0 (length catalog.streams)

    stream_is : (s : ℕ) → s < length catalog.streams → IsStreamAt catalog most s (stream s)
    stream_is s there = for_each_one (IsStreamAt catalog most) streams k.streams s s no_batches form.streams (stream_number s there)

    -- an inner stream has had no batch
    inner_none : (s : ℕ) (there : s < length catalog.streams) → is_inner_stream catalog s ≡ true → (stream s).0 ≡ 0
    inner_none s there inner = let had : (stream s).0 ≤ 0 = subst (λ (b : Bool). (stream s).0 ≤ cond b 0 most) inner (stream_is s there).had in omega (arith, had)

    batches_at : (s : ℕ) → s < length catalog.streams → stream_batches db s ≡ all_batches (stream s)
    batches_at s there = get_or-map all_batches k.streams s no_batches [] (omega (arith, there, many_streams))

    length_at : (s : ℕ) → s < length catalog.streams → length (stream_batches db s) ≡ (stream s).0
    length_at s there = ap (λ (l : List Rows). length l) (batches_at s there) ∙ length-all_batches (most_of catalog most s) (stream_schema catalog s) (stream s) (stream_is s there)

    none_past : (s : ℕ) → length catalog.streams ≤ s → stream_batches db s ≡ []
    none_past s past = get_or_past (map all_batches k.streams) s [] (omega (arith, past, many_streams, length-map k.streams all_batches))

    least_is : (s : ℕ) → s < length catalog.streams → least_count catalog db s ≡ (stream s).1.0
    least_is s there = by (is_inner_stream catalog s) refl
      where
        step : ℕ → ℕ → ℕ
        step least q = cond (procedure_takes catalog q s) (min least (get_or k.counts q 0)) least

        by : (inner : Bool) → is_inner_stream catalog s ≡ inner → least_count catalog db s ≡ (stream s).1.0
        by true inner =
            let none = inner_none s there inner in
            let least : least_count catalog db s ≤ length (stream_batches db s) = least_within (λ q. procedure_takes catalog q s) (λ q. get_or k.counts q 0) (length (stream_batches db s)) (range_with_len 0 (length catalog.procedures)) in
            let first = (stream_is s there).first in
            omega (arith, none, least, first, length_at s there)
        by false outer =
            let last = last_taker s there outer in
            ap (λ n. fold step n (range_with_len 0 (length catalog.procedures))) (length_at s there)
            ∙ ap (λ n. fold step (stream s).0 (range_with_len 0 n)) (sym go.many)
            ∙ sym ((go.each last.0 s last.1 there).last last.2)

    window_is : (w : ℕ) → w < length catalog.windows → (d : WindowDef) × (slice_get catalog.windows w ≡ Some d) × IsWindowOf d (get_or k.windows w (0, []))
    window_is w there = ⊎_elim
        (λ found. (found.0, found.2, for_each_one IsWindowOf catalog.windows k.windows w found.0 (0, []) form.windows found.2))
        (λ past. absurd (omega (arith, past.0, there)))
        (slice_get_cases catalog.windows w).1

    many_windows : length k.windows ≡ length catalog.windows
    many_windows = as_many IsWindowOf catalog.windows k.windows form.windows

    windows_kept : map_indexed (λ w us. (length us, kept_units (window_def catalog w) us)) (map all_units k.windows) ≡ k.windows
    windows_kept = made_again (λ w us. (length us, kept_units (window_def catalog w) us)) all_units k.windows (0, [])
        (λ w lt. (let is = window_is w (omega (arith, lt, many_windows)) in
        let w_is = get_or k.windows w (0, []) in
        subst (λ (d : WindowDef). ◌≡◌ {A = ℕ × Window} (length (all_units w_is), kept_units d (all_units w_is)) w_is) (sym (get_or_from_slice_get catalog.windows w is.0 default_window is.1)) (units_again is.0 w_is is.2)))

    streams_kept : map_indexed (λ s bs. (length bs, (least_count catalog db s, drop (least_count catalog db s) bs))) (map all_batches k.streams) ≡ k.streams
    streams_kept = made_again (λ s bs. (length bs, (least_count catalog db s, drop (least_count catalog db s) bs))) all_batches k.streams no_batches
        (λ s lt. (let there : s < length catalog.streams = omega (arith, lt, many_streams) in
        let least = least_is s there in
        λ j. (length-all_batches (most_of catalog most s) (stream_schema catalog s) (stream s) (stream_is s there) j, (least j, (ap (λ n. drop n (all_batches (stream s))) least ∙ drop-behind_blanks (stream s).1.0 (stream s).1.1) j))))

    kept_is : k ≡ kept catalog db
    unfolding kept
    kept_is = λ j. record { tables = k.tables; windows = sym windows_kept j; streams = sym streams_kept j; counts = k.counts; next_numbers = k.next_numbers; bodies = k.bodies }

    -- ---- it is whole

    tables_whole : (t : ℕ) (d : TableDef) → slice_get catalog.tables t ≡ Some d → WholeTable d (table_at db.contents t)
    unfolding table_at
    tables_whole t d is = (for_each_one IsTableOf catalog.tables k.tables t d finmap.empty form.tables is).whole

    window_whole : (d : WindowDef) (w : ℕ × Window) → IsWindowOf d w → WholeWindow d (all_units w)
    window_whole d w is =
        let again = units_again d w is in
        let long : length (all_units w) ≡ w.0 = ap (λ (p : ℕ × Window). p.0) again in
        record {
          units = ap (list_all (unit_fits d)) (ap (λ (p : ℕ × Window). p.1) again) ∙ list_all_from (unit_fits d) w.1 (λ i x lt. unit_is_fit d (get_or w.1 i x) (is.units i x lt));
          few = (let few = is.few in omega (arith, long, few));
        }

    windows_whole : (w : ℕ) (d : WindowDef) → slice_get catalog.windows w ≡ Some d → WholeWindow d (window_units db.contents w)
    unfolding window_units
    windows_whole w d is =
        let there : w < length k.windows = omega (arith, slice_get_within catalog.windows w d is, many_windows) in
        subst (WholeWindow d) (sym (get_or-map all_units k.windows w (0, []) [] there)) (window_whole d (get_or k.windows w (0, [])) (for_each_one IsWindowOf catalog.windows k.windows w d (0, []) form.windows is))

    contents_whole : WholeContents catalog db.contents
    contents_whole = record {
      table_count = as_many IsTableOf catalog.tables k.tables form.tables;
      window_count = length-map k.windows all_units ∙ many_windows;
      tables = tables_whole;
      windows = windows_whole;
    }

    count_past : (q : ℕ) → length catalog.procedures ≤ q → batch_count db q ≡ 0
    count_past q past = get_or_past k.counts q 0 (omega (arith, past, go.many))

    in_step : IsInStep catalog db
    in_step = record {
      matched = record {
        shape = record { counts = go.many; streams = length-map k.streams all_batches ∙ many_streams };
        streams = λ s p emits.
            (let there = accepted.structure.streams.wired.emits_there p s emits in
            length_at s there ∙ (go.each p s (emitter_there catalog p s emits) there).emits emits);
      };
      within = λ s q takes.
          (let there = within_streams catalog accepted q s takes in
          let le = (go.each q s (taker_there catalog q s takes) there).takes takes in
          omega (arith, le, length_at s there));
    }

    batches_whole : (s : ℕ) → list_all (batch_fits (stream_schema catalog s)) (drop (least_count catalog db s) (stream_batches db s)) ≡ true
    batches_whole s = ⊎_elim
        (λ (there : s < length catalog.streams).
        (let rest : drop (least_count catalog db s) (stream_batches db s) ≡ (stream s).1.1 = (λ j. drop (least_is s there j) (batches_at s there j)) ∙ drop-behind_blanks (stream s).1.0 (stream s).1.1 in
        ap (list_all (batch_fits (stream_schema catalog s))) rest ∙ list_all_from (batch_fits (stream_schema catalog s)) (stream s).1.1 (λ i x lt. batch_is_fit (stream_schema catalog s) (get_or (stream s).1.1 i x) ((stream_is s there).batches i x lt))))
        (λ (past : length catalog.streams ≤ s).
        ap (λ (l : List Rows). list_all (batch_fits (stream_schema catalog s)) (drop (least_count catalog db s) l)) (none_past s past)
        ∙ ap (list_all (batch_fits (stream_schema catalog s))) (drop-nil {A = Rows} (least_count catalog db s)))
        (cases_lt s (length catalog.streams))

    calls_none : (q : ℕ) (p : Procedure) → slice_get catalog.procedures q ≡ Some p → is_call p.kind ≡ true → batch_count db q ≡ 0
    calls_none q p is call = go.calls q (slice_get_within catalog.procedures q p is) (ap (procedure_has (λ p. is_call p.kind)) is ∙ call)

    many_sources : length k.next_numbers ≡ length catalog.streams
    many_sources = as_many (IsSourcesAt catalog) streams k.next_numbers form.sources ∙ length-range_with_len 0 (length catalog.streams)

    sources_are : (s : ℕ) → IsSourcesAt catalog s (get_or k.next_numbers s finmap.empty)
    sources_are s = ⊎_elim
        (λ (there : s < length catalog.streams). for_each_one (IsSourcesAt catalog) streams k.next_numbers s s finmap.empty form.sources (stream_number s there))
        (λ (past : length catalog.streams ≤ s). subst (IsSourcesAt catalog s) (sym (get_or_past k.next_numbers s finmap.empty (omega (arith, past, many_sources)))) (record { sources = no_sources_are; none = λ no. refl }))
        (cases_lt s (length catalog.streams))

    number_fits : (s : ℕ) (source : List ℕ) (n : ℕ) → finmap.get (get_or k.next_numbers s finmap.empty) source ≡ Some n → NextNumberFits catalog s n
    number_fits s source n is =
        let m = get_or k.next_numbers s finmap.empty in
        let are = sources_are s in
        let next = in_map (slice_cmp nat_cmp) (slice_cmp-IsAntisymmetric nat_cmp-IsAntisymmetric) (λ source n. IsNext (source, n)) m (all_recursion IsNext (finmap.entries m) are.sources.numbers) source n is in
        record { border = by (is_border_stream catalog s) refl; at_least = next.0; at_most = next.1 }
      where
        by : (b : Bool) → is_border_stream catalog s ≡ b → is_border_stream catalog s ≡ true
        by true border = border
        by false other =
            let none : Some n ≡ None = sym is ∙ ap (λ (m : NextNumbers). finmap.get m source) ((sources_are s).none other) ∙ get-empty (slice_cmp nat_cmp) source in cc

    none_inner : (s : ℕ) → is_inner_stream catalog s ≡ true → stream_batches db s ≡ []
    none_inner s inner = ⊎_elim
        (λ (there : s < length catalog.streams). no_batch (stream_batches db s) (length_at s there ∙ inner_none s there inner))
        (λ (past : length catalog.streams ≤ s). none_past s past)
        (cases_lt s (length catalog.streams))

    whole : WholeDatabase catalog db
    whole = record {
      contents = contents_whole;
      in_step = in_step;
      inner = none_inner;
      next_count = many_sources;
      batches = batches_whole;
      calls = calls_none;
      next_numbers = number_fits;
      body_count = texts_count bodies k.bodies form.texts;
      bodies = texts_may bodies k.bodies form.texts;
    }

    -- ---- and there is room for it

    count_at_most : (q : ℕ) (p : Procedure) → slice_get catalog.procedures q ≡ Some p → (b : Bool) → is_call p.kind ≡ b → batch_count db q ≤ most
    count_at_most q p is true call = omega (arith, calls_none q p is call)
    count_at_most q p is false other =
        let takes = taken_by q p is other in
        let there = within_streams catalog accepted q takes.0 takes.1 in
        let le = (go.each q takes.0 (slice_get_within catalog.procedures q p is) there).takes takes.1 in
        let had = (stream_is takes.0 there).had in
        omega (arith, le, had, most_within catalog most takes.0)

    had : HadAtMost most db
    had = record {
      streams = λ s. ⊎_elim
          (λ (there : s < length catalog.streams). (let most_had = (stream_is s there).had in omega (arith, length_at s there, most_had, most_within catalog most s)))
          (λ (past : length catalog.streams ≤ s). omega (arith, ap (λ (l : List Rows). length l) (none_past s past)))
          (cases_lt s (length catalog.streams));
      counts = λ q. ⊎_elim
          (λ found. count_at_most q found.0 found.2 (is_call found.0.kind) refl)
          (λ gone. omega (arith, count_past q gone.0))
          (slice_get_cases catalog.procedures q).1;
    }

    typed : (size : ℕ) (test : ℕ → Bool) (schema : List Column) (rows : Rows) → AreRowsOf size test schema rows → All IsTypedRow rows
    typed size test schema rows are = λ i x lt. (are.each i x lt).0.1

    window_fits : (d : WindowDef) (w : ℕ × Window) → IsWindowOf d w → FitsWindow w
    window_fits d w is = (
      (let few = is.few in omega (arith, few)),
      λ i x lt. ((is.units i x lt).long, typed 8 (is_unit d.unit) d.schema (get_or w.1 i x) (is.units i x lt)),
    )

    stream_fits : (n : ℕ) (s : ℕ × (ℕ × List Rows)) → IsStreamAt catalog most n s → FitsStream s
    stream_fits n s is = (
      is.long,
      (let first = is.first in let long = is.long in omega (arith, first, long)),
      λ i x lt. ((is.batches i x lt).long, typed 2 (λ n. nat_le n 1024) (stream_schema catalog n) (get_or s.1.1 i x) (is.batches i x lt)),
    )

    fits : FitsImage bodies catalog k
    fits = record {
      tables = are_all IsTableOf FitsTable (λ d m is. is.fits) catalog.tables k.tables form.tables;
      windows = are_all IsWindowOf FitsWindow window_fits catalog.windows k.windows form.windows;
      streams = are_all (IsStreamAt catalog most) FitsStream stream_fits streams k.streams form.streams;
      counts = chained_all (λ before n. before ++ n ∷ []) (λ (n : ℕ). n < 2 ^ 64) [] k.counts
          (chained_so (λ before n. before ++ n ∷ []) (λ before n. (n < 256 ^ 8) × (may_have_taken catalog k.streams before n ≡ true)) (λ before n. n < 2 ^ 64) (λ before n has. (let small = has.0 in omega (arith, small))) [] k.counts form.counts.each);
      next_numbers = are_all (IsSourcesAt catalog) FitNumbers (λ s m is. is.sources.fits) streams k.next_numbers form.sources;
      texts = texts_fit bodies k.bodies form.texts;
    }

    pub is_kept : IsKeptOf bodies catalog most k
    is_kept = record { db = db; whole = whole; had = had; fits = fits; is = kept_is }
