-- Rows that were gathered by a range, in the order of their keys, are enough.
use Rattle.std.proofs.Common.{◌≡◌, ℕ, Bool, true, false, cond, T, List, [], ◌∷◌, map, refl, sym, ap, subst, ◌∙◌, ◌==◌, ◌⊎◌, inl, inr, arith, Option, Some, None, option_map}
use Rattle.std.proofs.lemmas.Bool.Decides.{nat_tests}
use Rattle.std.specs.Prelude.{Contains, IsSome}
use Rattle.std.specs.List.{AllByRecursion, filter, filter_map, cons_option, find}
use Rattle.std.specs.Option.{option_and_then}
use Rattle.std.specs.Ordering.{eq_by_cmp}
use Rattle.std.specs.declared.cmp.Ordering.TheVariants.{Equal}
use Rattle.std.specs.FinMap as finite
use Rattle.std.specs.FinMap.Entries as entries
use Rattle.ss_lemmas.proofs.Bools.{and_left, and_right, is_false}
use Rattle.ss_lemmas.proofs.EachOf.{all_with}
use Rattle.ss_value.specs.declared.schema.Column.{Column}
use Rattle.ss_value.specs.Rows.{Row, column_values}
use Rattle.ss_value.specs.Order.{row_cmp}
use Rattle.ss_value.specs.ValueOrder.{row_cmp_total, row_cmp-IsAntisymmetric}
use Rattle.ss_value.proofs.CallerLemmas.{same_row, alike}
use Rattle.ss_sql_trees.specs.declared.typed.Expr.{Expr}
use Rattle.ss_table.specs.TableValue.{LiveRows, key_of, row_at}
use Rattle.ss_table.specs.Keyed.{StandsAtKey, SlotsDiffer}
use Rattle.ss_table.proofs.CallerLemmas.{and_both}
use Rattle.ss_index.specs.Pairs.{IndexValue as Index, Pair, pair_cmp, pair_of, in_range, slots_in}
use Rattle.ss_index.proofs.CallerLemmas.{tied as pair_tied}
use Rattle.ss_rows.specs.Sources.{Positioned}
use Rattle.ss_shard.proofs.CallerLemmas.{same_key}
use Rattle.ss_plan.specs.Chosen.{Chosen}
use Rattle.ss_plan.specs.Seen.{live_positions}
use Rattle.ss_plan.specs.Fronts.{meets_run}
use Rattle.ss_plan.specs.Keys.{is_there, Finds}
use Rattle.ss_plan.specs.Ranges.{range_end}
use Rattle.ss_plan.specs.Found.{row_seen, rows_seen_in, with_keys, IsInKeyOrder}
use Rattle.ss_plan.specs.Plans.{HasRows}
use Rattle.ss_plan.specs.declared.bounds.RangeEnd.TheVariants.{Low, High}
use Rattle.ss_plan.proofs.Matching.{filter_through, filter_alike, find_own, live_apart}
use Rattle.ss_plan.proofs.Keyed.{row_found}
use Rattle.ss_plan.proofs.KeyOrder.{first_in, behind_in, in_cases, in_none}
use Rattle.ss_plan.proofs.Ranging.{range_so}

-- ---- rows in the order of their keys, each of them one of others, are those others whose keys are among theirs

module _ (all found : List Chosen) (rises : T (entries.is_sorted row_cmp all)) (sorted : T (entries.is_sorted row_cmp found)) (are : (key : Row) (v : ℕ × Row) → entries.find row_cmp key found ≡ Some v → entries.find row_cmp key all ≡ Some v) where
  abbrev is_found : Row → Bool
  is_found key = is_there (entries.find row_cmp key found)

  same_found : (key : Row) → entries.find row_cmp key found ≡ cond (is_found key) (entries.find row_cmp key all) None
  same_found key = by (entries.find row_cmp key found) refl
    where
      by : (o : Option (ℕ × Row)) → entries.find row_cmp key found ≡ o → o ≡ cond (is_there o) (entries.find row_cmp key all) None
      by (Some v) is = sym (are key v is)
      by None is = refl

  gathered : found ≡ filter (λ e. is_found e.0) all
  gathered =
      entries.same_entries row_cmp row_cmp_total row_cmp-IsAntisymmetric _ _ sorted (entries.is_sorted-where_key row_cmp is_found all rises)
      (λ q. same_found q ∙ sym (entries.find-where_key row_cmp is_found q (alike is_found q) all))

  module _ (key : List ℕ) (keyed : AllByRecursion (StandsAtKey key) all) where
    agree : (es : List Chosen) → AllByRecursion (StandsAtKey key) es → AllByRecursion (λ e. is_found e.0 ≡ is_found (key_of key e.1.1)) es
    agree [] h = tt
    agree (e ∷ es) h = (ap is_found (h.0).0, agree es h.1)

    positions_gathered : map (λ (e : Chosen). e.1) found ≡ filter (λ p. is_found (key_of key p.1)) (map (λ (e : Chosen). e.1) all)
    positions_gathered =
        ap (map (λ (e : Chosen). e.1)) (gathered ∙ filter_alike (λ e. is_found e.0) (λ e. is_found (key_of key e.1.1)) all (agree all keyed))
        ∙ sym (filter_through (λ (e : Chosen). e.1) (λ p. is_found (key_of key p.1)) all)

    module _ (params : Row) (test : Option Expr) where
      -- each row that meets the run was found
      abbrev Complete : List Chosen → Type 0
      Complete es = AllByRecursion (λ e. meets_run params test e.1.1 ≡ true → is_found e.0 ≡ true) es

      others : (es : List Chosen) → AllByRecursion (StandsAtKey key) es → Complete es → AllByRecursion (λ p. is_found (key_of key p.1) ≡ false → meets_run params test p.1 ≡ false) (map (λ (e : Chosen). e.1) es)
      others [] h k = tt
      others (e ∷ es) h k = (
        λ off. is_false (meets_run params test e.1.1) (λ meets.
            let no : true ≡ false = sym (k.0 meets) ∙ ap is_found (h.0).0 ∙ off in cc),
        others es h.1 k.1,
      )

      -- so they are enough
      pub found_so : Complete all → Finds params test (map (λ (e : Chosen). e.1) all) (map (λ (e : Chosen). e.1) found)
      found_so complete = record { keep = λ p. is_found (key_of key p.1); are = positions_gathered; rest = others all keyed complete }

-- ---- live rows, those of them that are seen, and their slots

module _ (seen : Row → Bool) where
  below_seen : (k : Row) (es : List Chosen) → T (entries.below_all row_cmp k es) → T (entries.below_all row_cmp k (filter (λ e. seen e.1.1) es))
  below_seen k [] h = tt
  below_seen k (e ∷ es) h = by (seen e.1.1) (below_seen k es (and_right _ _ h))
    where
      by : (b : Bool) → T (entries.below_all row_cmp k (filter (λ e. seen e.1.1) es)) → T (entries.below_all row_cmp k (cond b (e ∷ filter (λ e. seen e.1.1) es) (filter (λ e. seen e.1.1) es)))
      by true rest = and_both _ _ (and_left _ _ h) rest
      by false rest = rest

  sorted_seen : (es : List Chosen) → T (entries.is_sorted row_cmp es) → T (entries.is_sorted row_cmp (filter (λ e. seen e.1.1) es))
  sorted_seen [] h = tt
  sorted_seen (e ∷ es) h = by (seen e.1.1) (below_seen e.0 es (and_left _ _ h)) (sorted_seen es (and_right _ _ h))
    where
      by : (b : Bool) → T (entries.below_all row_cmp e.0 (filter (λ e. seen e.1.1) es)) → T (entries.is_sorted row_cmp (filter (λ e. seen e.1.1) es)) → T (entries.is_sorted row_cmp (cond b (e ∷ filter (λ e. seen e.1.1) es) (filter (λ e. seen e.1.1) es)))
      by true below rest = and_both _ _ below rest
      by false below rest = rest

  find_seen : (k : Row) (v : ℕ × Row) (es : List Chosen) → seen v.1 ≡ true → entries.find row_cmp k es ≡ Some v → entries.find row_cmp k (filter (λ e. seen e.1.1) es) ≡ Some v
  find_seen k v [] on is = is
  find_seen k v (e ∷ es) on is = by (eq_by_cmp row_cmp k e.0) refl is (seen e.1.1) refl (find_seen k v es on)
    where
      by : (same : Bool) → eq_by_cmp row_cmp k e.0 ≡ same → cond same (Some e.1) (entries.find row_cmp k es) ≡ Some v → (b : Bool) → seen e.1.1 ≡ b
          → (entries.find row_cmp k es ≡ Some v → entries.find row_cmp k (filter (λ e. seen e.1.1) es) ≡ Some v)
          → entries.find row_cmp k (cond b (e ∷ filter (λ e. seen e.1.1) es) (filter (λ e. seen e.1.1) es)) ≡ Some v
      by true same is true s rest = ap (λ b. cond b (Some e.1) (entries.find row_cmp k (filter (λ e. seen e.1.1) es))) same ∙ is
      by true same is false s rest =
          let here : e.1 ≡ v = cc in
          let no : true ≡ false = sym on ∙ ap (λ (p : ℕ × Row). seen p.1) (sym here) ∙ s in
          cc
      by false same is true s rest = ap (λ b. cond b (Some e.1) (entries.find row_cmp k (filter (λ e. seen e.1.1) es))) same ∙ rest is
      by false same is false s rest = rest is

  all_seen : (P : Chosen → Type 0) (es : List Chosen) → AllByRecursion (λ e. seen e.1.1 ≡ true → P e) es → AllByRecursion P (filter (λ e. seen e.1.1) es)
  all_seen P [] h = tt
  all_seen P (e ∷ es) h = by (seen e.1.1) refl (all_seen P es h.1)
    where
      by : (b : Bool) → seen e.1.1 ≡ b → AllByRecursion P (filter (λ e. seen e.1.1) es) → AllByRecursion P (cond b (e ∷ filter (λ e. seen e.1.1) es) (filter (λ e. seen e.1.1) es))
      by true s rest = (h.0 s, rest)
      by false s rest = rest

at_slot : (P : Chosen → Type 0) (slot : ℕ) (row : Row) (es : List Chosen) → AllByRecursion P es → option_map (λ (e : Chosen). e.1.1) (find (λ e. e.1.0 == slot) es) ≡ Some row → (e : Chosen) × P e × (e.1.0 ≡ slot) × (e.1.1 ≡ row)
at_slot P slot row [] h is = cc
at_slot P slot row (e ∷ es) h is = by (e.1.0 == slot) refl is (at_slot P slot row es h.1)
  where
    by : (b : Bool) → (e.1.0 == slot) ≡ b → option_map (λ (e : Chosen). e.1.1) (cond b (Some e) (find (λ e. e.1.0 == slot) es)) ≡ Some row
        → (option_map (λ (e : Chosen). e.1.1) (find (λ e. e.1.0 == slot) es) ≡ Some row → (e : Chosen) × P e × (e.1.0 ≡ slot) × (e.1.1 ≡ row)) → (e : Chosen) × P e × (e.1.0 ≡ slot) × (e.1.1 ≡ row)
    by true here is rest = (e, h.0, (let same : e.1.0 ≡ slot = grind (arith, nat_tests) in same), (let same : e.1.1 ≡ row = cc in same))
    by false here is rest = rest is

module _ {X Y : Type 0} (h : X → Option Y) where
  from_kept : (y : Y) (xs : List X) → Contains (filter_map h xs) y → (x : X) × (h x ≡ Some y)
  from_kept y [] k = absurd (in_none y k)
  from_kept y (x ∷ xs) k = by (h x) refl k (from_kept y xs)
    where
      by : (o : Option Y) → h x ≡ o → Contains (cons_option o (filter_map h xs)) y → (Contains (filter_map h xs) y → (x : X) × (h x ≡ Some y)) → (x : X) × (h x ≡ Some y)
      by None is k rest = rest k
      by (Some z) is k rest = or (in_cases z y (filter_map h xs) k)
        where
          or : (z ≡ y) ⊎ Contains (filter_map h xs) y → (x : X) × (h x ≡ Some y)
          or (inl same) = (x, is ∙ ap Some same)
          or (inr there) = rest there

  in_kept : (x : X) (y : Y) (xs : List X) → h x ≡ Some y → Contains xs x → Contains (filter_map h xs) y
  in_kept x y [] is k = absurd (in_none x k)
  in_kept x y (w ∷ ws) is k = by (h w) refl (in_cases w x ws k) (in_kept x y ws is)
    where
      by : (o : Option Y) → h w ≡ o → (w ≡ x) ⊎ Contains ws x → (Contains ws x → Contains (filter_map h ws) y) → Contains (cons_option o (filter_map h ws)) y
      by o e (inl here) rest = subst (λ o. Contains (cons_option o (filter_map h ws)) y) (sym is ∙ ap h (sym here) ∙ e) (first_in y (filter_map h ws))
      by None e (inr there) rest = rest there
      by (Some z) e (inr there) rest = behind_in z y (filter_map h ws) (rest there)

seen_so : (seen : Row → Bool) (live : LiveRows) (slot : ℕ) (v : ℕ × Row) → row_seen seen live slot ≡ Some v → (row_at live v.0 ≡ Some v.1) × (seen v.1 ≡ true)
seen_so seen live slot v is = by (row_at live slot) refl is
  where
    on : (row : Row) → row_at live slot ≡ Some row → (b : Bool) → seen row ≡ b → cond b (Some (slot, row)) None ≡ Some v → (row_at live v.0 ≡ Some v.1) × (seen v.1 ≡ true)
    on row here true s is =
        let same : ◌≡◌ {A = ℕ × Row} (slot, row) v = cc in
        (ap (row_at live) (ap (λ (p : ℕ × Row). p.0) (sym same)) ∙ here ∙ ap (λ (p : ℕ × Row). Some p.1) same, ap (λ (p : ℕ × Row). seen p.1) (sym same) ∙ s)
    on row here false s is = cc

    by : (o : Option Row) → row_at live slot ≡ o → option_and_then (λ row. cond (seen row) (Some (slot, row)) None) o ≡ Some v → (row_at live v.0 ≡ Some v.1) × (seen v.1 ≡ true)
    by (Some row) here is = on row here (seen row) refl is
    by None here is = cc

find_in : (key : List ℕ) (q : Row) (v : ℕ × Row) (ps : Positioned) → entries.find row_cmp q (with_keys key ps) ≡ Some v → Contains ps v × (q ≡ column_values key v.1)
find_in key q v [] is = cc
find_in key q v (p ∷ ps) is = by (eq_by_cmp row_cmp q (column_values key p.1)) refl is (find_in key q v ps)
  where
    by : (b : Bool) → eq_by_cmp row_cmp q (column_values key p.1) ≡ b → cond b (Some p) (entries.find row_cmp q (with_keys key ps)) ≡ Some v
        → (entries.find row_cmp q (with_keys key ps) ≡ Some v → Contains ps v × (q ≡ column_values key v.1)) → Contains (p ∷ ps) v × (q ≡ column_values key v.1)
    by true same is rest =
        let here : p ≡ v = cc in
        (subst (Contains (p ∷ ps)) here (first_in p ps), same_row q (column_values key p.1) same ∙ ap (λ (p : ℕ × Row). column_values key p.1) here)
    by false same is rest = let r = rest is in (behind_in p v ps r.0, r.1)

-- ---- the slot of a pair in the range is reported

module _ (low high : Row) (p : Pair) where
  abbrev slots_among : List (Pair × ℕ) → List ℕ
  slots_among es = map (λ (e : Pair × ℕ). e.0.1) (filter (λ e. in_range low high e.0.0) es)

  slot_reported : (es : List (Pair × ℕ)) → in_range low high p.0 ≡ true → IsSome (entries.find pair_cmp p es) → Contains (slots_among es) p.1
  slot_reported [] within some = cc
  slot_reported (e ∷ es) within some = by (eq_by_cmp pair_cmp p e.0) refl some (in_range low high e.0.0) refl (slot_reported es within)
    where
      by : (same : Bool) → eq_by_cmp pair_cmp p e.0 ≡ same → IsSome (cond same (Some e.1) (entries.find pair_cmp p es)) → (b : Bool) → in_range low high e.0.0 ≡ b → (IsSome (entries.find pair_cmp p es) → Contains (slots_among es) p.1)
          → Contains (map (λ (e : Pair × ℕ). e.0.1) (cond b (e ∷ filter (λ e. in_range low high e.0.0) es) (filter (λ e. in_range low high e.0.0) es))) p.1
      by true same some true r rest = subst (Contains (e.0.1 ∷ slots_among es)) (ap (λ (p : Pair). p.1) (sym (pair_tied p e.0 same))) (first_in e.0.1 (slots_among es))
      by true same some false r rest = let no : true ≡ false = sym within ∙ ap (λ (p : Pair). in_range low high p.0) (pair_tied p e.0 same) ∙ r in cc
      by false same some true r rest = behind_in e.0.1 p.1 (slots_among es) (rest some)
      by false same some false r rest = rest some

module _ (seen : Row → Bool) (live : LiveRows) (key : List ℕ) (keyed : AllByRecursion (StandsAtKey key) (finite.entries live)) (apart : SlotsDiffer (finite.entries live)) (index : Index) (pairs : HasRows live index) (columns : List Column) (params : Row) (test : Option Expr) where
  abbrev low : Row
  low = range_end Low columns params test index.columns

  abbrev high : Row
  high = range_end High columns params test index.columns

  abbrev all : List Chosen
  all = filter (λ (e : Chosen). seen e.1.1) (finite.entries live)

  abbrev gathered_rows : Positioned
  gathered_rows = rows_seen_in seen live (slots_in index.pairs low high)

  -- an entry stands at its key
  abbrev Own : Chosen → Type 0
  Own e = (entries.find row_cmp e.0 (finite.entries live) ≡ Some e.1) × StandsAtKey key e

  all_own : AllByRecursion Own (finite.entries live)
  all_own = both_all (finite.entries live) (find_own (finite.entries live) (live_apart live)) keyed
    where
      both_all : (es : List Chosen) → AllByRecursion (λ e. entries.find row_cmp e.0 (finite.entries live) ≡ Some e.1) es → AllByRecursion (StandsAtKey key) es → AllByRecursion Own es
      both_all [] h k = tt
      both_all (e ∷ es) h k = ((h.0, k.0), both_all es h.1 k.1)

  values_are : (e : Chosen) → StandsAtKey key e → column_values key e.1.1 ≡ e.0
  values_are e s = same_key key e.1.1 s.1 ∙ sym s.0

  module _ (rows : Positioned) (ordered : IsInKeyOrder key gathered_rows rows) where
    are : (q : Row) (v : ℕ × Row) → entries.find row_cmp q (with_keys key rows) ≡ Some v → entries.find row_cmp q all ≡ Some v
    are q v is =
        let f = find_in key q v rows is in
        let k = from_kept (row_seen seen live) v (slots_in index.pairs low high) (ordered.among v f.0) in
        let s = seen_so seen live k.0 v k.1 in
        let e = at_slot Own v.0 v.1 (finite.entries live) all_own s.0 in
        let same : e.0.1 ≡ v = ap (λ s. (s, e.0.1.1)) e.2 ∙ ap (λ (r : Row). (v.0, r)) e.3 in
        let here : e.0.0 ≡ q = sym (values_are e.0 e.1.1) ∙ ap (λ (p : ℕ × Row). column_values key p.1) same ∙ sym f.1 in
        find_seen seen q v (finite.entries live) s.1 (ap (λ q. entries.find row_cmp q (finite.entries live)) (sym here) ∙ e.1.0 ∙ ap Some same)

    found_one : (e : Chosen) → Own e → seen e.1.1 ≡ true → meets_run params test e.1.1 ≡ true → is_there (entries.find row_cmp e.0 (with_keys key rows)) ≡ true
    found_one e own on meets =
        let there : finite.get live e.0 ≡ Some e.1 = finite.get-entries live e.0 ∙ own.0 in
        let p = pair_of index.columns e.1.1 e.1.0 in
        let stands : IsSome (entries.find pair_cmp p (finite.entries index.pairs)) = subst (λ o. IsSome o) (finite.get-entries index.pairs p) (pairs e.0 e.1.0 e.1.1 there) in
        let reported = slot_reported low high p (finite.entries index.pairs) (range_so columns e.1.1 params test index.columns meets) stands in
        let is : row_seen seen live e.1.0 ≡ Some e.1 = ap (option_and_then (λ row. cond (seen row) (Some (e.1.0, row)) None)) (row_found live apart e.0 e.1 there) ∙ ap (λ b. cond b (Some e.1) None) on in
        ap (λ k. is_there (entries.find row_cmp k (with_keys key rows))) (sym (values_are e own.1))
        ∙ ordered.each e.1 (in_kept (row_seen seen live) e.1.0 e.1 (slots_in index.pairs low high) is reported)

    keys_off : (ps : Positioned) → map (λ (e : Chosen). e.1) (with_keys key ps) ≡ ps
    keys_off [] = refl
    keys_off (p ∷ ps) = ap (λ rest. p ∷ rest) (keys_off ps)

    -- the rows of the range, in the order of their keys, are enough
    pub found_by_range : Finds params test (filter (λ p. seen p.1) (live_positions live)) rows
    found_by_range =
        let f = found_so all (with_keys key rows) (sorted_seen seen (finite.entries live) (finite.entries_sorted live)) (subst T (sym ordered.rises) tt) are key
        (all_seen seen (StandsAtKey key) (finite.entries live) (all_with (StandsAtKey key) (λ e. seen e.1.1 ≡ true → StandsAtKey key e) (λ e s on. s) (finite.entries live) keyed))
        params test
        (all_seen seen (λ e. meets_run params test e.1.1 ≡ true → is_there (entries.find row_cmp e.0 (with_keys key rows)) ≡ true) (finite.entries live)
        (all_with Own (λ e. seen e.1.1 ≡ true → meets_run params test e.1.1 ≡ true → is_there (entries.find row_cmp e.0 (with_keys key rows)) ≡ true) found_one (finite.entries live) all_own)) in
        subst (λ some. Finds params test (filter (λ p. seen p.1) (live_positions live)) some) (keys_off rows)
        (subst (λ ps. Finds params test ps (map (λ (e : Chosen). e.1) (with_keys key rows))) (sym (filter_through (λ (e : Chosen). e.1) (λ p. seen p.1) (finite.entries live))) f)
