-- The empty database of an accepted catalogue is whole, and a whole database stays so.
use Rattle.std.proofs.Common.{◌≡◌, ◌&&◌, ◌≤◌, ◌<◌, ◌+◌, ◌-◌, ◌^◌, ℕ, zero, suc, nat_lt, nat_le, Bool, true, false, cond, ◌==◌, List, [], ◌∷◌, ◌++◌, map, drop, get_or, length, replicate, slice_get, refl, sym, ap, ◌∙◌, subst, Some, None, unwrap_or, ◌⊎◌, inl, inr, ◌≢◌, arith, length-set, set}
use Rattle.std.proofs.lemmas.Bool.{ltb-true, ltb-false, and_from, or_right, or_left}
use Rattle.std.proofs.lemmas.Bool.Decides.{Decides-eqb, eqb_tells}
use Rattle.std.proofs.lemmas.List.{length-map, length-replicate, get_or_past}
use Rattle.std.proofs.Math.Nat.{le_trans}
use Rattle.std.specs.Option.{option_map}
use Rattle.std.specs.declared.option.Option.{Option}
use Rattle.std.specs.List.{list_all, list_any}
use Rattle.std.specs.Str.{bytes_eq}
use Rattle.std.specs.Ordering.{nat_cmp, eq_by_cmp}
use Rattle.std.specs.Cmp.Lexicographic.{slice_cmp, nat_list_cmp_total}
use Rattle.std.specs.FinMap as finmap
use Rattle.std.specs.FinMap.{get-empty, len-empty, get-insert}
use Rattle.ss_value.specs.declared.schema.Column.{Column}
use Rattle.ss_value.specs.Fit.{fits_schema}
use Rattle.ss_value.specs.Rows.{Row, Rows}
use Rattle.ss_value.specs.Order.{row_cmp}
use Rattle.ss_model.specs.declared.catalog.Catalog.{Catalog}
use Rattle.ss_model.specs.declared.catalog.ProcedureKind.{ProcedureKind}
use Rattle.ss_model.specs.declared.catalog.ProcedureKind.TheVariants.{Call as CallKind, Border, Interior}
use Rattle.ss_model.specs.declared.catalog.Placement.{Placement}
use Rattle.ss_model.specs.declared.catalog.Placement.TheVariants.{Part, By}
use Rattle.ss_model.specs.declared.catalog.Procedure.{Procedure}
use Rattle.ss_model.specs.declared.catalog.TableDef.{TableDef}
use Rattle.ss_model.specs.declared.entry.Entry.{Entry}
use Rattle.ss_model.specs.declared.entry.Entry.TheVariants.{Call, Push, Step as StepEntry, Install}
use Rattle.ss_model.specs.declared.entry.Listed.{Listed}
use Rattle.ss_model.specs.declared.entry.Outcome.TheVariants.{Done, Duplicate, Gap}
use Rattle.ss_model.specs.Contents.{table_at, window_units, first_kept, kept_units}
use Rattle.ss_model.specs.Database.{Database, NextNumbers, Applied, empty_database, apply, apply_call, apply_step, accept_batch, append_batches, next_number, push_fits, batch_count, stream_batches, stream_schema, takes_stream, emits_to, is_border, is_border_stream, is_inner_stream, is_call, is_streaming, has_step, fits_entry, has_body, has_spare, own_text, body_text}
use Rattle.ss_model.specs.Replays.{database_after, after}
use Rattle.ss_model.specs.Orders.{procedure_takes, procedure_has}
use Rattle.ss_model.specs.CatalogForm.{is_of_kind, inputs_of_kind, args_of_kind}
use Rattle.ss_model.specs.Typing.{input_schema}
use Rattle.ss_model.specs.Accepted.{Accepted}
use Rattle.ss_model.specs.Settling.{least_count, procedure_numbers}
use Rattle.ss_model.specs.InStep.{IsInStep}
use Rattle.ss_model.specs.WholeDatabase.{is_within_limit, WholeTable, unit_fits, WholeContents, batch_fits, NextNumberFits, WholeDatabase, WholeDatabaseStays, HadAtMost}
use Rattle.ss_model.specs.SoundRuns.{FitAll}
use Rattle.ss_lemmas.proofs.Bools.{first_of_two, second_of_two, some_same, either_so, at_index}
use Rattle.ss_model_kept.proofs.CallerLemmas.{drop_on, SameKeptDatabase, least_rises, same_least, reads_kept, set_one, get_or-map_index, length-map_index, get_or-alike}
use Rattle.ss_model_laws.proofs.WholeChanges.{all_dropped}
use Rattle.ss_model_laws.proofs.Effects.{Effect, effect, counted, WasReady, of_when}
use Rattle.ss_model.proofs.CallerLemmas.{applied_fits}
use Rattle.ss_model_laws.proofs.InStep.{in_step_next, empty_in_step}
use Rattle.ss_model_laws.proofs.Batches.{grows_by_one, grown_length, stream_grows}
use Rattle.ss_model_laws.proofs.StatementSound.{each_of, window_of}
use Rattle.ss_model_laws.proofs.BodySound.{present_whole}
use Rattle.ss_model_laws.proofs.OwnBodies.{as_many_own, own_at, same_text}

below_next : (a b : ℕ) → a < b → a + 1 ≤ b
below_next a b h = omega arith

one_at_least : (a : ℕ) → 1 ≤ a + 1
one_at_least a = omega arith

within : (a b c n : ℕ) → a ≤ n → b ≤ a + c → b ≤ n + c
within a b c n h k = omega arith

pub past : {A : Type 0} (xs : List A) (n : ℕ) → slice_get xs n ≡ None → length xs ≤ n
past [] n e = omega arith
past (x ∷ xs) zero e = cc
past (x ∷ xs) (suc n) e = let later : length xs ≤ n = past xs n e in omega arith

-- ---- the empty database

empty_within : (placement : Placement) → is_within_limit placement finmap.empty ≡ true
empty_within (Part p) = ap (λ n. nat_le n 1000000) (len-empty row_cmp Row)
empty_within (By c) = refl

empty_table : (d : TableDef) → WholeTable d finmap.empty
empty_table d = record {
  fits = λ key row is. let no : None ≡ Some row = sym (get-empty row_cmp key) ∙ is in cc;
  keyed = λ key row is. let no : None ≡ Some row = sym (get-empty row_cmp key) ∙ is in cc;
  few = empty_within d.placement;
}

empty_contents : (catalog : Catalog) → WholeContents catalog (empty_database catalog).contents
unfolding table_at window_units
empty_contents catalog = record {
  table_count = length-replicate (length catalog.tables) finmap.empty;
  window_count = length-replicate (length catalog.windows) [];
  tables = λ t d is. subst (WholeTable d) (sym (get_or-alike (length catalog.tables) t finmap.empty)) (empty_table d);
  windows = λ w d is. let none : get_or (replicate (length catalog.windows) []) w [] ≡ [] = get_or-alike (length catalog.windows) w [] in record { units = subst (λ us. list_all (unit_fits d) (kept_units d us) ≡ true) (sym none) (all_dropped (unit_fits d) (first_kept d 0) [] refl); few = subst (λ us. length us ≤ 2 ^ 62) (sym none) (omega arith) };
}

-- ---- a stream's batches

-- one that is kept
one_fits : (columns : List Column) (k r : ℕ) (bs : List Rows) → k ≤ r → list_all (batch_fits columns) (drop k bs) ≡ true → FitAll columns (get_or bs r [])
one_fits columns k r [] l h = tt
one_fits columns zero zero (b ∷ bs) l h = each_of (fits_schema columns) b (second_of_two (nat_le (length b) 1024) (list_all (fits_schema columns) b) (first_of_two (batch_fits columns b) (list_all (batch_fits columns) bs) h))
one_fits columns (suc k) zero (b ∷ bs) l h = absurd (omega arith)
one_fits columns zero (suc r) (b ∷ bs) l h = one_fits columns zero r bs (omega arith) (from_front bs (second_of_two (batch_fits columns b) (list_all (batch_fits columns) bs) h))
  where
    from_front : (bs : List Rows) → list_all (batch_fits columns) bs ≡ true → list_all (batch_fits columns) (drop 0 bs) ≡ true
    from_front [] e = e
    from_front (x ∷ bs) e = e
one_fits columns (suc k) (suc r) (b ∷ bs) l h = one_fits columns k r bs (omega arith) h

module _ (test : Rows → Bool) where
  one_behind : (bs : List Rows) (b : Rows) → list_all test bs ≡ true → test b ≡ true → list_all test (bs ++ b ∷ []) ≡ true
  one_behind [] b h k = and_from (test b) true k refl
  one_behind (x ∷ bs) b h k = and_from (test x) (list_all test (bs ++ b ∷ [])) (first_of_two (test x) (list_all test bs) h) (one_behind bs b (second_of_two (test x) (list_all test bs) h) k)

  -- a later tail
  later_tail : (k m : ℕ) (bs : List Rows) → k ≤ m → list_all test (drop k bs) ≡ true → list_all test (drop m bs) ≡ true
  later_tail k m bs l h =
      let apart : m ≡ k + (m - k) = omega arith in
      ap (λ n. list_all test (drop n bs)) apart ∙ ap (list_all test) (drop_on k (m - k) bs) ∙ all_dropped test (m - k) (drop k bs) h

  tail_behind : (k : ℕ) (bs : List Rows) (b : Rows) → list_all test (drop k bs) ≡ true → test b ≡ true → list_all test (drop k (bs ++ b ∷ [])) ≡ true
  tail_behind zero [] b h f = and_from (test b) true f refl
  tail_behind zero (x ∷ bs) b h f = one_behind (x ∷ bs) b h f
  tail_behind (suc k) [] b h f = all_dropped test k [] refl
  tail_behind (suc k) (x ∷ bs) b h f = tail_behind k bs b h f

  -- a later tail, with one batch more
  later_behind : (k m : ℕ) (bs : List Rows) (b : Rows) → k ≤ m → list_all test (drop k bs) ≡ true → test b ≡ true → list_all test (drop m (bs ++ b ∷ [])) ≡ true
  later_behind k m bs b l h f = later_tail k m (bs ++ b ∷ []) l (tail_behind k bs b h f)

  when_behind : (emits : Bool) (k m : ℕ) (bs : List Rows) (b : Rows) → k ≤ m → list_all test (drop k bs) ≡ true → test b ≡ true → list_all test (drop m (cond emits (bs ++ b ∷ []) bs)) ≡ true
  when_behind true k m bs b l h f = later_behind k m bs b l h f
  when_behind false k m bs b l h f = later_tail k m bs l h

inputs_fit : (catalog : Catalog) (f : ℕ → Rows) (ss : List ℕ) (i : ℕ) → ((s : ℕ) → list_any (λ i. i == s) ss ≡ true → FitAll (stream_schema catalog s) (f s)) → FitAll (input_schema catalog ss [] i) (get_or (map f ss) i [])
inputs_fit catalog f [] i h = tt
inputs_fit catalog f (s ∷ ss) zero h = h s (or_left (s == s) _ ((Decides-eqb s s).1 refl))
inputs_fit catalog f (s ∷ ss) (suc i) h = inputs_fit catalog f ss i (λ z e. h z (or_right (s == z) _ e))

pub call_or_not : (k : ProcedureKind) → is_call k ≡ true → is_streaming k ≡ true → ⊥
call_or_not CallKind c s = cc
call_or_not Border c s = cc
call_or_not Interior c s = cc

-- one that passes has an index
one_at : (test : Procedure → Bool) (ps : List Procedure) → list_any test ps ≡ true → (n : ℕ) × (p : Procedure) × (slice_get ps n ≡ Some p) × (test p ≡ true)
one_at test [] e = cc
one_at test (p ∷ ps) e = by (one_at test ps) (either_so _ _ e)
  where
    by : (list_any test ps ≡ true → (n : ℕ) × (q : Procedure) × (slice_get ps n ≡ Some q) × (test q ≡ true)) → (test p ≡ true) ⊎ (list_any test ps ≡ true) → (n : ℕ) × (q : Procedure) × (slice_get (p ∷ ps) n ≡ Some q) × (test q ≡ true)
    by later (inl h) = (0, p, refl, h)
    by later (inr h) = let (n, q, is, k) = later h in (suc n, q, is, k)

none_of : (bs : List Rows) → length bs ≡ 0 → bs ≡ []
none_of [] l = refl
none_of (b ∷ bs) l = absurd (omega arith)

no_inputs : (k : ProcedureKind) (inputs : List ℕ) → is_call k ≡ true → inputs_of_kind k inputs ≡ true → length {A = Rows} [] ≡ length inputs
no_inputs CallKind [] c h = refl
no_inputs CallKind (s ∷ inputs) c h = cc
no_inputs Border inputs c h = cc
no_inputs Interior inputs c h = cc

-- a stream to which a procedure does not emit is as before
not_grown : (p : Procedure) (emitted : List Rows) (ss : List (List Rows)) (s : ℕ) → list_any (emits_to s) p.body ≡ false → get_or (append_batches p emitted ss) s [] ≡ get_or ss s []
not_grown p emitted ss s none = by (nat_lt s (length ss)) refl
  where
    by : (b : Bool) → nat_lt s (length ss) ≡ b → get_or (append_batches p emitted ss) s [] ≡ get_or ss s []
    by true e = get_or-map_index (λ s bs. cond (list_any (emits_to s) p.body) (bs ++ get_or emitted s [] ∷ []) bs) ss s [] [] (ltb-true _ _ e) ∙ ap (λ b. cond b (get_or ss s [] ++ get_or emitted s [] ∷ []) (get_or ss s [])) none
    by false e =
        let past : length ss ≤ s = ltb-false _ _ e in
        let same : length (append_batches p emitted ss) ≡ length ss = length-map_index _ ss in
        get_or_past (append_batches p emitted ss) s [] (omega arith) ∙ sym (get_or_past ss s [] past)

no_args : (k : ProcedureKind) (args : List Column) → is_streaming k ≡ true → args_of_kind k args ≡ true → fits_schema args [] ≡ true
no_args CallKind args s h = cc
no_args Border [] s h = refl
no_args Border (c ∷ args) s h = cc
no_args Interior [] s h = refl
no_args Interior (c ∷ args) s h = cc

module _ (catalog : Catalog) (accepted : Accepted catalog) where
  pub kinds : (q : ℕ) (p : Procedure) → slice_get catalog.procedures q ≡ Some p → is_of_kind p ≡ true
  kinds = at_index is_of_kind catalog.procedures (second_of_two _ _ accepted.form)

  -- no border stream is an inner one
  inner_or_border : (s : ℕ) → is_inner_stream catalog s ≡ true → is_border_stream catalog s ≡ true → ⊥
  inner_or_border s inner border =
      let (n, d, at_n, passes) = one_at (λ p. is_border p.kind && takes_stream s p) catalog.procedures border in
      let wrong : true ≡ false = sym (ap (procedure_has (takes_stream s)) at_n ∙ second_of_two _ _ passes) ∙ (accepted.structure.streams.inner).not_taken n s inner in
      cc

  -- ---- what an entry leaves of tables, windows, batches and next numbers

  -- the batches that some consumer has still to take fit
  abbrev KeptFit : Database → Type 0
  KeptFit x = (s : ℕ) → list_all (batch_fits (stream_schema catalog s)) (drop (least_count catalog x s) (stream_batches x s)) ≡ true

  -- no stream's least count falls
  abbrev LeastRises : Database → Database → Type 0
  LeastRises x y = (s : ℕ) → least_count catalog x s ≤ least_count catalog y s

  record Left (db : Database) (a : Applied) : Type 0 where
    contents : WholeContents catalog a.db.contents
    next_count : length a.db.next_numbers ≡ length catalog.streams
    batches : KeptFit a.db
    next_numbers : (s : ℕ) (source : List ℕ) (n : ℕ) → finmap.get (get_or a.db.next_numbers s finmap.empty) source ≡ Some n → NextNumberFits catalog s n
    inner : (s : ℕ) → is_inner_stream catalog s ≡ true → stream_batches a.db s ≡ []

  call_left : (db : Database) (client q : ℕ) (args : Row) (o : Option Procedure) (a : Applied) → slice_get catalog.procedures q ≡ o → WholeDatabase catalog db → apply_call catalog db client q args o ≡ Some a → Left db a
  call_left db client q args None a is h e = cc
  call_left db client q args (Some p) a is h e =
      let known = of_when _ _ a e in
      subst (Left db) (some_same _ a known.1) (record {
        contents = (present_whole catalog accepted q p is db args [] db.contents (second_of_two _ _ known.0)
            (no_inputs p.kind p.inputs (second_of_two _ _ (first_of_two _ _ known.0)) (first_of_two _ _ (first_of_two _ _ (kinds q p is)))) (λ i. tt) h.contents).contents;
        next_count = h.next_count;
        batches = h.batches;
        next_numbers = h.next_numbers;
        inner = h.inner;
      })

  same_left : (db : Database) (a : Applied) → WholeDatabase catalog db → a.db ≡ db → Left db a
  same_left db a h e = record {
    contents = subst (λ z. WholeContents catalog z.contents) (sym e) h.contents;
    next_count = subst (λ z. length z.next_numbers ≡ length catalog.streams) (sym e) h.next_count;
    batches = subst KeptFit (sym e) h.batches;
    next_numbers = λ s source n is. h.next_numbers s source n (subst (λ z. finmap.get (get_or z.next_numbers s finmap.empty) source ≡ Some n) e is);
    inner = λ s is. ap (λ z. stream_batches z s) e ∙ h.inner s is;
  }

  module _ (client t seq : ℕ) (source : List ℕ) (rows : Rows) (fits : push_fits catalog client t seq rows ≡ true) where
    rows_fit_batch : batch_fits (stream_schema catalog t) rows ≡ true
    rows_fit_batch = and_from (nat_le (length rows) 1024) (list_all (fits_schema (stream_schema catalog t)) rows) (second_of_two _ _ (first_of_two _ _ (first_of_two _ _ fits))) (second_of_two _ _ fits)

    number_inserted : (m : NextNumbers) → ((name : List ℕ) (n : ℕ) → finmap.get m name ≡ Some n → NextNumberFits catalog t n) → (name : List ℕ) (n : ℕ) → finmap.get (finmap.insert m source (seq + 1)) name ≡ Some n → NextNumberFits catalog t n
    number_inserted m h name n is = by (eq_by_cmp (slice_cmp nat_cmp) name source) (sym (get-insert nat_list_cmp_total m source (seq + 1) name) ∙ is)
      where
        by : (b : Bool) → cond b (Some (seq + 1)) (finmap.get m name) ≡ Some n → NextNumberFits catalog t n
        by true e =
            let below : seq < 2 ^ 63 = ltb-true seq (2 ^ 63) (second_of_two _ _ (first_of_two _ _ fits)) in
            subst (NextNumberFits catalog t) (some_same (seq + 1) n e) (record { border = second_of_two _ _ (first_of_two _ _ (first_of_two _ _ (first_of_two _ _ fits))); at_least = one_at_least seq; at_most = below_next seq (2 ^ 63) below })
        by false e = h name n e

    accepted_left : (db : Database) → WholeDatabase catalog db → LeastRises db (accept_batch db t source seq rows) → Left db (record { db = accept_batch db t source seq rows; outcome = Done []; emitted = [] })
    accepted_left db h rises = record {
      contents = h.contents;
      next_count = length-set db.next_numbers t _ ∙ h.next_count;
      batches = λ s.
          let k = least_count catalog db s in
          let m = least_count catalog (accept_batch db t source seq rows) s in
          set_one (λ bs. list_all (batch_fits (stream_schema catalog s)) (drop m bs) ≡ true) db.streams t s _ [] (later_tail (batch_fits (stream_schema catalog s)) k m (stream_batches db s) (rises s) (h.batches s)) (λ e.
          later_behind (batch_fits (stream_schema catalog s)) k m (stream_batches db t) rows (rises s)
          (subst (λ z. list_all (batch_fits (stream_schema catalog s)) (drop k (stream_batches db z)) ≡ true) (sym e) (h.batches s))
          (subst (λ z. batch_fits (stream_schema catalog z) rows ≡ true) e rows_fit_batch));
      next_numbers = λ s. set_one (λ m. (name : List ℕ) (n : ℕ) → finmap.get m name ≡ Some n → NextNumberFits catalog s n) db.next_numbers t s _ finmap.empty (h.next_numbers s) (λ e. subst (λ z. (name : List ℕ) (n : ℕ) → finmap.get (finmap.insert (get_or db.next_numbers t finmap.empty) source (seq + 1)) name ≡ Some n → NextNumberFits catalog z n) e (number_inserted (get_or db.next_numbers t finmap.empty) (h.next_numbers t)));
      inner = λ s is. set_one (λ bs. bs ≡ []) db.streams t s _ [] (h.inner s is) (λ same.
          absurd (inner_or_border s is (subst (λ z. is_border_stream catalog z ≡ true) same (second_of_two _ _ (first_of_two _ _ (first_of_two _ _ (first_of_two _ _ fits)))))));
    }

    abbrev numbered : Database → ℕ → Bool → Bool → Applied
    numbered db next b c = cond {A = Applied} b (record { db = accept_batch db t source seq rows; outcome = Done []; emitted = [] }) (cond {A = Applied} c (record { db = db; outcome = Duplicate next; emitted = [] }) (record { db = db; outcome = Gap next; emitted = [] }))

    push_left : (db : Database) (next : ℕ) (b c : Bool) → WholeDatabase catalog db → LeastRises db (numbered db next b c).db → Left db (numbered db next b c)
    push_left db next true c h rises = accepted_left db h rises
    push_left db next false true h rises = same_left db _ h refl
    push_left db next false false h rises = same_left db _ h refl

  module _ (p : Procedure) (emitted : List Rows) (ss : List (List Rows)) (least later : ℕ → ℕ) where
    grown_fits : ((s : ℕ) → batch_fits (stream_schema catalog s) (get_or emitted s []) ≡ true) → ((s : ℕ) → least s ≤ later s) → ((s : ℕ) → list_all (batch_fits (stream_schema catalog s)) (drop (least s) (get_or ss s [])) ≡ true) → (s : ℕ) (b : Bool) → nat_lt s (length ss) ≡ b → list_all (batch_fits (stream_schema catalog s)) (drop (later s) (get_or (append_batches p emitted ss) s [])) ≡ true
    grown_fits new rises h s true t =
        subst (λ bs. list_all (batch_fits (stream_schema catalog s)) (drop (later s) bs) ≡ true) (sym (get_or-map_index _ ss s [] [] (ltb-true _ _ t)))
        (when_behind (batch_fits (stream_schema catalog s)) (list_any (emits_to s) p.body) (least s) (later s) (get_or ss s []) (get_or emitted s []) (rises s) (h s) (new s))
    grown_fits new rises h s false t =
        let past : length ss ≤ s = ltb-false _ _ t in
        let same : length (append_batches p emitted ss) ≡ length ss = length-map_index _ ss in
        ap (λ bs. list_all (batch_fits (stream_schema catalog s)) (drop (later s) bs)) (get_or_past (append_batches p emitted ss) s [] (omega arith)) ∙ all_dropped (batch_fits (stream_schema catalog s)) (later s) [] refl

  step_left : (db : Database) (q r : ℕ) (o : Option Procedure) (a : Applied) → slice_get catalog.procedures q ≡ o → WholeDatabase catalog db → LeastRises db a.db → apply_step catalog db q r o ≡ Some a → Left db a
  step_left db q r None a is h rises e = cc
  step_left db q r (Some p) a is h rises e =
      let known = of_when _ _ a e in
      let streaming : is_streaming p.kind ≡ true = first_of_two _ _ (first_of_two _ _ known.0) in
      let count : batch_count db q ≡ r = (Decides-eqb _ _).0 (second_of_two _ _ (first_of_two _ _ known.0)) in
      let run = present_whole catalog accepted q p is db [] (map (λ s. get_or (stream_batches db s) r []) p.inputs) db.contents
      (no_args p.kind p.args streaming (second_of_two _ _ (first_of_two _ _ (kinds q p is))))
      (length-map p.inputs (λ s. get_or (stream_batches db s) r []))
      (λ i. inputs_fit catalog (λ s. get_or (stream_batches db s) r []) p.inputs i (λ s t. one_fits (stream_schema catalog s) (least_count catalog db s) r (stream_batches db s) (reads_kept catalog q r p is db s count t) (h.batches s))) h.contents in
      let same = some_same _ a known.1 in
      let behind = subst (λ z. LeastRises db z.db) (sym same) rises in
      subst (Left db) same (record {
        contents = run.contents;
        next_count = h.next_count;
        batches = λ s. grown_fits p _ db.streams (least_count catalog db) _ run.emitted behind h.batches s (nat_lt s (length db.streams)) refl;
        next_numbers = h.next_numbers;
        inner = λ s t. not_grown p _ db.streams s (sym (ap (procedure_has (λ d. list_any (emits_to s) d.body)) is) ∙ (accepted.structure.streams.inner).not_emitted q s t) ∙ h.inner s t;
      })

  left : (db : Database) (e : Entry) (a : Applied) → WholeDatabase catalog db → LeastRises db a.db → apply catalog db e ≡ Some a → Left db a
  unfolding apply
  left db (Call client index q args) a h rises e = call_left db client q args (slice_get catalog.procedures q) a refl h e
  left db (Push client index t source seq rows) a h rises e =
      let known = of_when _ _ a e in
      let same = some_same _ a known.1 in
      subst (Left db) same (push_left client t seq source rows known.0 db (next_number db t source) _ _ h (subst (λ z. LeastRises db z.db) (sym same) rises))
  left db (StepEntry q r) a h rises e = step_left db q r (slice_get catalog.procedures q) a refl h rises e
  left db (Install client index q text) a h rises e =
      subst (Left db) (some_same _ a (of_when _ _ a e).1) (record { contents = h.contents; next_count = h.next_count; batches = h.batches; next_numbers = h.next_numbers; inner = h.inner })

  -- ---- counts

  risen : (db : Database) (e : Entry) (q : ℕ) → WasReady catalog db e → batch_count db q ≤ counted e q (batch_count db q)
  risen db (Call client index n args) q ready = omega arith
  risen db (Push client index t source seq rows) q ready = omega arith
  risen db (Install client index n text) q ready = omega arith
  risen db (StepEntry n r) q ready = by (eqb_tells q n)
    where
      by : ((q == n ≡ true) × (q ≡ n)) ⊎ ((q == n ≡ false) × (q ≢ n)) → batch_count db q ≤ cond (q == n) (suc r) (batch_count db q)
      by (inl same) = subst (λ b. batch_count db q ≤ cond b (suc r) (batch_count db q)) (sym same.0) (let here : batch_count db q ≡ r = ap (batch_count db) same.1 ∙ ready.0 in omega arith)
      by (inr other) = subst (λ b. batch_count db q ≤ cond b (suc r) (batch_count db q)) (sym other.0) (omega arith)

  least_rises_too : (db : Database) (e : Entry) (a : Applied) → Effect catalog db e a → ((s : ℕ) → length (stream_batches db s) ≤ length (stream_batches a.db s)) → LeastRises db a.db
  least_rises_too db e a k longer s =
      least_rises (λ p. procedure_takes catalog p s) (procedure_numbers catalog) (batch_count db) (batch_count a.db) _ _ (λ q. subst (λ n. batch_count db q ≤ n) (sym (k.counts q)) (risen db e q k.ready)) (longer s)

  still_none : (db : Database) (e : Entry) (a : Applied) → WholeDatabase catalog db → Effect catalog db e a → fits_entry catalog e ≡ true → (q : ℕ) (p : Procedure) → slice_get catalog.procedures q ≡ Some p → is_call p.kind ≡ true → batch_count a.db q ≡ 0
  still_none db e a h k fits q p is call = k.counts q ∙ by e fits
    where
      by : (e : Entry) → fits_entry catalog e ≡ true → counted e q (batch_count db q) ≡ 0
      by (Call client index n args) f = h.calls q p is call
      by (Push client index t source seq rows) f = h.calls q p is call
      by (Install client index n text) f = h.calls q p is call
      by (StepEntry n r) f = at_step (eqb_tells q n)
        where
          at_step : ((q == n ≡ true) × (q ≡ n)) ⊎ ((q == n ≡ false) × (q ≢ n)) → cond (q == n) (suc r) (batch_count db q) ≡ 0
          at_step (inl same) = absurd (call_or_not p.kind call (sym (ap has_step (ap (slice_get catalog.procedures) (sym same.1) ∙ is)) ∙ f))
          at_step (inr other) = ap (λ b. cond b (suc r) (batch_count db q)) other.0 ∙ h.calls q p is call

  -- ---- bodies

  -- as many bodies as before, and each procedure that had one which it may have has such a one
  abbrev BodiesLeft : Database → Database → Type 0
  BodiesLeft x y = (length y.bodies ≡ length x.bodies) × ((q : ℕ) → has_body catalog q (body_text x q) ≡ true → has_body catalog q (body_text y q) ≡ true)

  as_before : (x y : Database) → y.bodies ≡ x.bodies → BodiesLeft x y
  as_before x y e = (ap length e, λ q h. ap (λ bodies. has_body catalog q (get_or bodies q [])) e ∙ h)

  installed : (db : Database) (n : ℕ) (text : List ℕ) → has_body catalog n text ≡ true → BodiesLeft db (record db { bodies = set db.bodies n text })
  installed db n text has = (
    length-set db.bodies n text,
    λ q h. set_one (λ t. has_body catalog q t ≡ true) db.bodies n q text [] h (λ e. subst (λ z. has_body catalog z text ≡ true) e has),
  )

  call_bodies : (db : Database) (client q : ℕ) (args : Row) (o : Option Procedure) (a : Applied) → apply_call catalog db client q args o ≡ Some a → a.db.bodies ≡ db.bodies
  call_bodies db client q args None a e = cc
  call_bodies db client q args (Some p) a e = ap (λ z. z.db.bodies) (sym (some_same _ a (of_when _ _ a e).1))

  step_bodies : (db : Database) (q r : ℕ) (o : Option Procedure) (a : Applied) → apply_step catalog db q r o ≡ Some a → a.db.bodies ≡ db.bodies
  step_bodies db q r None a e = cc
  step_bodies db q r (Some p) a e = ap (λ z. z.db.bodies) (sym (some_same _ a (of_when _ _ a e).1))

  push_bodies : (db : Database) (t seq : ℕ) (source : List ℕ) (rows : Rows) (next : ℕ) (b c : Bool) → (cond {A = Applied} b (record { db = accept_batch db t source seq rows; outcome = Done []; emitted = [] }) (cond {A = Applied} c (record { db = db; outcome = Duplicate next; emitted = [] }) (record { db = db; outcome = Gap next; emitted = [] }))).db.bodies ≡ db.bodies
  push_bodies db t seq source rows next true c = refl
  push_bodies db t seq source rows next false true = refl
  push_bodies db t seq source rows next false false = refl

  bodies_left : (db : Database) (e : Entry) (a : Applied) → apply catalog db e ≡ Some a → BodiesLeft db a.db
  unfolding apply
  bodies_left db (Call client index q args) a e = as_before db a.db (call_bodies db client q args (slice_get catalog.procedures q) a e)
  bodies_left db (Push client index t source seq rows) a e =
      as_before db a.db (ap (λ z. z.db.bodies) (sym (some_same _ a (of_when _ _ a e).1)) ∙ push_bodies db t seq source rows (next_number db t source) _ _)
  bodies_left db (StepEntry q r) a e = as_before db a.db (step_bodies db q r (slice_get catalog.procedures q) a e)
  bodies_left db (Install client index n text) a e =
      let known = of_when _ _ a e in
      subst (λ z. BodiesLeft db z.db) (some_same _ a known.1) (installed db n text (second_of_two _ _ known.0))

  -- ---- whole databases

  pub stays_whole : (db : Database) (e : Entry) (a : Applied) → WholeDatabase catalog db → apply catalog db e ≡ Some a → WholeDatabase catalog a.db
  stays_whole db e a h is =
      let k = effect catalog db e a h.in_step.matched.shape is in
      let l = left db e a h (least_rises_too db e a k (λ s. (grown_length catalog _ _ (grows_by_one catalog db e a is s)).0)) is in
      record {
        contents = l.contents;
        in_step = in_step_next catalog accepted.structure.streams.wired db e a h.in_step is;
        next_count = l.next_count;
        batches = l.batches;
        calls = still_none db e a h k (applied_fits catalog db e a is);
        next_numbers = l.next_numbers;
        inner = l.inner;
        body_count = (bodies_left db e a is).0 ∙ h.body_count;
        bodies = λ q p at. (bodies_left db e a is).1 q (h.bodies q p at);
      }

  pub next_whole : (db : Database) (e : Entry) → WholeDatabase catalog db → WholeDatabase catalog (database_after catalog db e)
  next_whole db e h = by (apply catalog db e) refl
    where
      by : (o : Option Applied) → apply catalog db e ≡ o → WholeDatabase catalog (unwrap_or (option_map (λ a. a.db) o) db)
      by None is = h
      by (Some a) is = stays_whole db e a h is

  pub whole_after : (db : Database) (list : List Listed) → WholeDatabase catalog db → WholeDatabase catalog (after catalog db list)
  whole_after db [] h = h
  whole_after db (l ∷ ls) h = whole_after (database_after catalog db l.entry) ls (next_whole db l.entry h)

  pub empty_whole : WholeDatabase catalog (empty_database catalog)
  empty_whole = record {
    contents = empty_contents catalog;
    in_step = empty_in_step catalog accepted.structure.streams.wired;
    next_count = length-replicate (length catalog.streams) finmap.empty;
    batches = λ s.
        let m = least_count catalog (empty_database catalog) s in
        subst (λ bs. list_all (batch_fits (stream_schema catalog s)) (drop m bs) ≡ true) (sym (get_or-alike (length catalog.streams) s [])) (all_dropped (batch_fits (stream_schema catalog s)) m [] refl);
    calls = λ q p is call. get_or-alike (length catalog.procedures) q 0;
    inner = λ s is. get_or-alike (length catalog.streams) s [];
    body_count = as_many_own (own_text catalog) catalog.procedures;
    bodies = λ q p at. subst (λ text. has_body catalog q text ≡ true) (sym (own_at (own_text catalog) catalog.procedures q p at)) (or_left (bytes_eq (own_text catalog q) (own_text catalog q)) (has_spare catalog q (own_text catalog q)) (same_text (own_text catalog q)));
    next_numbers = λ s source n is. let no : None ≡ Some n = sym (ap (λ m. finmap.get m source) (get_or-alike (length catalog.streams) s finmap.empty) ∙ get-empty (slice_cmp nat_cmp) source) ∙ is in cc;
  }

  pub whole_database_stays : WholeDatabaseStays catalog
  whole_database_stays = record { starts = empty_whole; stays = stays_whole; along = whole_after }

  -- ---- how many batches

  some_input : (k : ProcedureKind) (inputs : List ℕ) → is_streaming k ≡ true → inputs_of_kind k inputs ≡ true → (s : ℕ) × (list_any (λ i. i == s) inputs ≡ true)
  some_input CallKind inputs streams h = cc
  some_input Border [] streams h = cc
  some_input Border (s ∷ inputs) streams h = (s, or_left (s == s) _ ((Decides-eqb s s).1 refl))
  some_input Interior [] streams h = cc
  some_input Interior (s ∷ inputs) streams h = (s, or_left (s == s) _ ((Decides-eqb s s).1 refl))

  pub has_input : (q : ℕ) (p : Procedure) → slice_get catalog.procedures q ≡ Some p → is_streaming p.kind ≡ true → (s : ℕ) × (procedure_takes catalog q s ≡ true)
  has_input q p is streams =
      let (s, takes) = some_input p.kind p.inputs streams (first_of_two _ _ (first_of_two _ _ (kinds q p is))) in
      (s, ap (procedure_has (takes_stream s)) is ∙ takes)

  count_within : (db : Database) → WholeDatabase catalog db → (n : ℕ) → ((s : ℕ) → length (stream_batches db s) ≤ n) → (q : ℕ) → batch_count db q ≤ n
  count_within db h n lengths q = by (slice_get catalog.procedures q) refl
    where
      none : batch_count db q ≡ 0 → batch_count db q ≤ n
      none e = omega arith

      of_kind : (p : Procedure) → slice_get catalog.procedures q ≡ Some p → (k : ProcedureKind) → p.kind ≡ k → batch_count db q ≤ n
      of_kind p is CallKind e = none (h.calls q p is (ap is_call e))
      of_kind p is Border e = let (s, takes) = has_input q p is (ap is_streaming e) in le_trans (h.in_step.within s q takes) (lengths s)
      of_kind p is Interior e = let (s, takes) = has_input q p is (ap is_streaming e) in le_trans (h.in_step.within s q takes) (lengths s)

      by : (o : Option Procedure) → slice_get catalog.procedures q ≡ o → batch_count db q ≤ n
      by None is = none (get_or_past db.counts q 0 (subst (λ m. m ≤ q) (sym h.in_step.matched.shape.counts) (past catalog.procedures q is)))
      by (Some p) is = of_kind p is p.kind refl

  pub had_at_most : (db : Database) → WholeDatabase catalog db → (n : ℕ) → ((s : ℕ) → length (stream_batches db s) ≤ n) → (list : List Listed) → HadAtMost (n + length list) (after catalog db list)
  had_at_most db h n lengths list =
      let streams : (s : ℕ) → length (stream_batches (after catalog db list) s) ≤ n + length list = λ s. within _ _ _ _ (lengths s) (stream_grows catalog db list s).at_most in
      record { streams = streams; counts = count_within (after catalog db list) (whole_after db list h) (n + length list) streams }

-- ---- whether a database is whole depends only on what is kept

module _ (catalog : Catalog) (x y : Database) (same : SameKeptDatabase catalog x y) (h : WholeDatabase catalog x) where
  kept_contents : WholeContents catalog y.contents
  unfolding table_at
  kept_contents = record {
    table_count = sym (ap length same.contents.tables) ∙ h.contents.table_count;
    window_count = sym same.contents.window_count ∙ h.contents.window_count;
    tables = λ t d is. subst (λ ts. WholeTable d (get_or ts t finmap.empty)) same.contents.tables (h.contents.tables t d is);
    windows = λ w d is.
        let window = subst (λ z. (length (window_units x.contents w) ≡ length (window_units y.contents w)) × (kept_units z (window_units x.contents w) ≡ kept_units z (window_units y.contents w))) (window_of catalog w d is) (same.contents.windows w) in
        let was = h.contents.windows w d is in
        record { units = subst (λ us. list_all (unit_fits d) us ≡ true) window.1 was.units; few = subst (λ n. n ≤ 2 ^ 62) window.0 was.few };
  }

  same_count : (q : ℕ) → batch_count x q ≡ batch_count y q
  same_count q = ap (λ cs. get_or cs q 0) same.counts

  kept_in_step : IsInStep catalog y
  kept_in_step = record {
    matched = record {
      shape = record { counts = sym (ap length same.counts) ∙ h.in_step.matched.shape.counts; streams = sym same.stream_count ∙ h.in_step.matched.shape.streams };
      streams = λ s p e. sym (same.lengths s) ∙ h.in_step.matched.streams s p e ∙ same_count p;
    };
    within = λ s q t. subst (λ n. n ≤ length (stream_batches y s)) (same_count q) (subst (λ n. batch_count x q ≤ n) (same.lengths s) (h.in_step.within s q t));
  }

  pub kept_is_whole : WholeDatabase catalog y
  kept_is_whole = record {
    contents = kept_contents;
    in_step = kept_in_step;
    next_count = sym (ap length same.next_numbers) ∙ h.next_count;
    batches = λ s.
        subst (λ k. list_all (batch_fits (stream_schema catalog s)) (drop k (stream_batches y s)) ≡ true) (same_least catalog x y s same.counts (same.lengths s))
        (subst (λ bs. list_all (batch_fits (stream_schema catalog s)) bs ≡ true) (same.tails s (least_count catalog x s) (omega arith)) (h.batches s));
    calls = λ q p is call. sym (same_count q) ∙ h.calls q p is call;
    body_count = sym (ap length same.bodies) ∙ h.body_count;
    bodies = λ q p at. ap (λ bodies. has_body catalog q (get_or bodies q [])) (sym same.bodies) ∙ h.bodies q p at;
    next_numbers = λ s source n is. h.next_numbers s source n (ap (λ ms. finmap.get (get_or ms s finmap.empty) source) same.next_numbers ∙ is);
    inner = λ s e. none_of _ (sym (same.lengths s) ∙ ap length (h.inner s e));
  }
