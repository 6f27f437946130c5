-- The form of a catalogue with nests, apart from its bodies: names, numbers, limits and sizes.
use Rattle.std.proofs.Common.{◌≡◌, ◌≤◌, ◌<◌, ◌==◌, ◌&&◌, ◌||◌, ◌+◌, ◌⊎◌, inl, inr, nat_le, nat_lt, ℕ, zero, suc, codes, Bool, true, false, cond, List, [], ◌∷◌, ◌++◌, map, length, slice_get, refl, sym, ap, ◌∙◌, subst, Some, None, arith}
use Rattle.std.specs.declared.option.Option.{Option}
use Rattle.std.specs.Option.{option_map}
use Rattle.std.specs.List.{filter, list_all, list_any, range_with_len}
use Rattle.std.proofs.lemmas.Bool.{and_from, not_from_false, ltb-true, lt-ltb, le-leb, or_from}
use Rattle.std.proofs.lemmas.List.{length-map}
use Rattle.std.proofs.lemmas.List.FromFn.{length-range_with_len}
use Rattle.std.proofs.lemmas.List.Folds.{list_any-append}
use Rattle.std.proofs.lemmas.Option.{slice_get-map, slice_get_within}
use Rattle.ss_model.specs.declared.catalog.Catalog.{Catalog}
use Rattle.ss_model.specs.declared.catalog.Nest.{Nest}
use Rattle.ss_model.specs.declared.catalog.On.{On}
use Rattle.ss_model.specs.declared.catalog.On.TheVariants.{Stream as OnStream, Window as OnWindow}
use Rattle.ss_model.specs.declared.catalog.Procedure.{Procedure}
use Rattle.ss_model.specs.declared.catalog.WindowDef.{WindowDef}
use Rattle.ss_model.specs.Results.{and_behind}
use Rattle.ss_model.specs.Database.{streams_read}
use Rattle.ss_model.specs.Orders.{procedure_emits}
use Rattle.ss_model.specs.CatalogForm.{all_distinct, columns_distinct, source_names, has_distinct_names, numbers_distinct, listed_parts, has_distinct_numbers, is_some_list, has_parts, head_of_kind, trigger_in_range, touch_in_range, numbers_in_range, counts_within_limits, has_frame}
use Rattle.ss_model.specs.Accepted.{Accepted}
use Rattle.ss_model.specs.Nests.{AreNests, nest_head, nest_procedure, inner_streams, nested_window, nested_catalog, nested_number}
use Rattle.ss_model.proofs.CallerLemmas.{behind_is, few_procedures}
use Rattle.ss_lemmas.proofs.Bools.{first_of_two, second_of_two, some_same, at_index, is_false, either_so}
use Rattle.ss_lemmas.proofs.EachOf.{all_from, map_map}
use Rattle.ss_lemmas.proofs.Numbers.{eqb_is, eqb_self, eqb_turned}
use Rattle.ss_model_laws.proofs.AcceptedBodies.{in_parts}
use Rattle.ss_nest_laws.proofs.Lists.{among, some_of, all_numbers, all_mapped, all_behind, none_within, off}
use Rattle.ss_nest_laws.proofs.Names.{one_place, distinct_by, made_at, in_first, in_second}
use Rattle.ss_nest_laws.proofs.NestMembers.{inputs_apart, inner_emits, first_outside, takes_is}
use Rattle.ss_nest_laws.proofs.NestPlaces.{is_kept, kept_from, how_many}
use Rattle.ss_nest_laws.proofs.Standing.{OneNest, Standing, by_itself, as_nest, standing, Gone, stays, joins, gone}

-- ---- lists of numbers that differ

distinct_both : (xs ys : List ℕ) → numbers_distinct xs ≡ true → numbers_distinct ys ≡ true → ((s : ℕ) → among s xs ≡ true → among s ys ≡ true → ⊥) → numbers_distinct (xs ++ ys) ≡ true
distinct_both [] ys d e apart = e
distinct_both (x ∷ xs) ys d e apart =
    and_from _ _
    (not_from_false _ (list_any-append (λ m. x == m) xs ys ∙ or_from _ _ (is_false _ (λ h. off _ (first_of_two _ _ d) h)) (is_false _ (λ h. apart x (ap (λ b. b || among x xs) (eqb_self x)) (turned ys h)))))
    (distinct_both xs ys (second_of_two _ _ d) e (λ s a b. apart s (behind (x == s) (among s xs) a) b))
  where
    behind : (a b : Bool) → b ≡ true → (a || b) ≡ true
    behind true b h = refl
    behind false b h = h

    turned : (zs : List ℕ) → list_any (λ m. x == m) zs ≡ true → among x zs ≡ true
    turned [] h = h
    turned (z ∷ zs) h = by (turned zs) (either_so _ _ h)
      where
        by : (list_any (λ m. x == m) zs ≡ true → among x zs ≡ true) → ((x == z) ≡ true) ⊎ (list_any (λ m. x == m) zs ≡ true) → among x (z ∷ zs) ≡ true
        by later (inl here) = ap (λ b. b || among x zs) (eqb_turned z x ∙ here)
        by later (inr there) = behind (z == x) (among x zs) (later there)

-- the numbers of a range
range_distinct : (f : ℕ → Bool) (a n : ℕ) → numbers_distinct (filter f (range_with_len a n)) ≡ true
range_distinct f a zero = refl
range_distinct f a (suc n) = by (f a) (range_distinct f (a + 1) n)
  where
    none_below : (b n : ℕ) → a < b → list_any (λ m. a == m) (filter f (range_with_len b n)) ≡ false
    none_below b zero l = refl
    none_below b (suc n) l = pick (f b) (none_below (b + 1) n (omega arith))
      where
        apart : (a == b) ≡ false
        apart = is_false _ (λ e. let same : a ≡ b = eqb_is a b e in omega arith)

        pick : (c : Bool) → list_any (λ m. a == m) (filter f (range_with_len (b + 1) n)) ≡ false → list_any (λ m. a == m) (cond c (b ∷ filter f (range_with_len (b + 1) n)) (filter f (range_with_len (b + 1) n))) ≡ false
        pick true later = or_from _ _ apart later
        pick false later = later

    by : (c : Bool) → numbers_distinct (filter f (range_with_len (a + 1) n)) ≡ true → numbers_distinct (cond c (a ∷ filter f (range_with_len (a + 1) n)) (filter f (range_with_len (a + 1) n))) ≡ true
    by true later = and_from _ _ (not_from_false _ (none_below (a + 1) n (omega arith))) later
    by false later = later

no_more : (f : ℕ → Bool) (xs : List ℕ) → length (filter f xs) ≤ length xs
no_more f [] = omega arith
no_more f (x ∷ xs) = by (f x) (no_more f xs)
  where
    by : (b : Bool) → length (filter f xs) ≤ length xs → length (cond b (x ∷ filter f xs) (filter f xs)) ≤ suc (length xs)
    by true l = omega arith
    by false l = omega arith

module _ (catalog : Catalog) (accepted : Accepted catalog) (nests : List Nest) (text : List ℕ) (are : AreNests catalog nests) where
  abbrev nested : Catalog
  nested = nested_catalog catalog nests text

  -- a test of all procedures: of each of the catalogue, and of each nest
  every : (test : Procedure → Bool) → list_all test catalog.procedures ≡ true → ((k : OneNest catalog nests) → test k.first ≡ true → test (nest_procedure catalog k.nest k.first) ≡ true) → list_all test nested.procedures ≡ true
  every test h nest = all_from test nested.procedures (λ n made is. by n made (standing catalog nests text are n made is))
    where
      by : (n : ℕ) (made : Procedure) → Standing catalog nests text are n made → test made ≡ true
      by n made (by_itself q stood out number) = at_index test catalog.procedures h q made stood
      by n made (as_nest k made_is number) = subst (λ z. test z ≡ true) made_is (nest k (at_index test catalog.procedures h k.head k.first k.first_is))

  windows_too : (test : WindowDef → Bool) → ((d : WindowDef) → test d ≡ true → test (nested_window nests d) ≡ true) → list_all test catalog.windows ≡ true → list_all test nested.windows ≡ true
  windows_too test k h = all_mapped test (nested_window nests) test k catalog.windows h

  frame : has_frame catalog ≡ true
  frame = (((in_parts catalog).0 accepted).0).form

  -- ---- names

  module _ (n m : ℕ) (x y : Procedure) (same : x.name ≡ y.name) where
    abbrev names : List (List ℕ)
    names = map (λ (nest : Nest). nest.name) nests ++ map (λ (p : Procedure). p.name) catalog.procedures

    nest_at_place : (k : OneNest catalog nests) → slice_get names k.place ≡ Some ((k.nest).name)
    nest_at_place k = in_first (map (λ (nest : Nest). nest.name) nests) (map (λ (p : Procedure). p.name) catalog.procedures) k.place ((k.nest).name) (slice_get-map (λ (nest : Nest). nest.name) nests k.place ∙ ap (option_map (λ (nest : Nest). nest.name)) k.stands)

    one_at_place : (q : ℕ) (p : Procedure) → slice_get catalog.procedures q ≡ Some p → slice_get names (length (map (λ (nest : Nest). nest.name) nests) + q) ≡ Some p.name
    one_at_place q p is =
        in_second (map (λ (nest : Nest). nest.name) nests) (map (λ (p : Procedure). p.name) catalog.procedures) q
        ∙ slice_get-map (λ (p : Procedure). p.name) catalog.procedures q ∙ ap (option_map (λ (p : Procedure). p.name)) is

    apart_of : (k : OneNest catalog nests) (q : ℕ) → k.place ≡ length (map (λ (nest : Nest). nest.name) nests) + q → ⊥
    apart_of k q e =
        let within : k.place < length nests = slice_get_within nests k.place k.nest k.stands in
        let count : length (map (λ (nest : Nest). nest.name) nests) ≡ length nests = length-map nests (λ (nest : Nest). nest.name) in
        omega arith

    one_number : Standing catalog nests text are n x → Standing catalog nests text are m y → n ≡ m
    one_number (by_itself q stood out number) (by_itself r there alone other) =
        let e : length (map (λ (nest : Nest). nest.name) nests) + q ≡ length (map (λ (nest : Nest). nest.name) nests) + r = one_place names are.named _ _ x.name y.name (one_at_place q x stood) (one_at_place r y there) same in
        let one : q ≡ r = omega arith in
        sym number ∙ ap (nested_number nests) one ∙ other
    one_number (by_itself q stood out number) (as_nest k made_is other) =
        absurd (apart_of k q (sym (one_place names are.named _ _ x.name ((k.nest).name) (one_at_place q x stood) (nest_at_place k) (same ∙ sym (ap (λ (p : Procedure). p.name) made_is)))))
    one_number (as_nest k made_is number) (by_itself r there alone other) =
        absurd (apart_of k r (one_place names are.named _ _ ((k.nest).name) y.name (nest_at_place k) (one_at_place r y there) (ap (λ (p : Procedure). p.name) made_is ∙ same)))
    one_number (as_nest k made_is number) (as_nest j is_too other) =
        let e : k.place ≡ j.place = one_place names are.named _ _ ((k.nest).name) ((j.nest).name) (nest_at_place k) (nest_at_place j) (ap (λ (p : Procedure). p.name) made_is ∙ same ∙ sym (ap (λ (p : Procedure). p.name) is_too)) in
        let nest : k.nest ≡ j.nest = some_same k.nest j.nest (sym k.stands ∙ ap (slice_get nests) e ∙ j.stands) in
        let head : k.head ≡ j.head = some_same k.head j.head (sym k.at_head ∙ ap (λ (z : Nest). nest_head z) nest ∙ j.at_head) in
        sym number ∙ ap (nested_number nests) head ∙ other

  procedure_names : all_distinct (map (λ d. d.name) nested.procedures) ≡ true
  procedure_names = distinct_by (map (λ (p : Procedure). p.name) nested.procedures) (λ n m a b is at same.
      let (x, x_at, x_is) = made_at (λ (p : Procedure). p.name) nested.procedures n a is in
      let (y, y_at, y_is) = made_at (λ (p : Procedure). p.name) nested.procedures m b at in
      one_number n m x y (x_is ∙ same ∙ sym y_is) (standing catalog nests text are n x x_at) (standing catalog nests text are m y y_at))

  sources : source_names nested ≡ source_names catalog
  sources = ap (λ (ws : List (List ℕ)). codes "inserted" ∷ map (λ d. d.name) catalog.tables ++ map (λ d. d.name) catalog.streams ++ ws) (map_map (λ (d : WindowDef). d.name) (nested_window nests) catalog.windows)

  names_too : has_distinct_names catalog ≡ true → has_distinct_names nested ≡ true
  names_too h =
      let windows = first_of_two _ _ h in
      let streams = first_of_two _ _ windows in
      let tables = first_of_two _ _ streams in
      let procedures = first_of_two _ _ tables in
      let triggers = first_of_two _ _ procedures in
      and_from _ _ (and_from _ _ (and_from _ _ (and_from _ _ (and_from _ _ (and_from _ _
      (ap all_distinct sources ∙ first_of_two _ _ triggers) (second_of_two _ _ triggers)) procedure_names)
      (second_of_two _ _ tables)) (second_of_two _ _ streams)) (windows_too (λ d. columns_distinct d.schema) (λ d e. e) (second_of_two _ _ windows)))
      (every (λ p. columns_distinct p.args) (second_of_two _ _ h) (λ k e. e))

  -- ---- numbers

  owner_in : (q : ℕ) → nat_lt q (length catalog.procedures) ≡ true → nat_lt (nested_number nests q) (length nested.procedures) ≡ true
  owner_in q l = by (slice_get catalog.procedures q) refl
    where
      within : (p : Procedure) → Gone catalog nests text are q p → nat_lt (nested_number nests q) (length nested.procedures) ≡ true
      within p (stays out at) = lt-ltb _ _ (slice_get_within nested.procedures (nested_number nests q) _ at)
      within p (joins k a same at) = lt-ltb _ _ (slice_get_within nested.procedures (nested_number nests q) _ at)

      by : (o : Option Procedure) → slice_get catalog.procedures q ≡ o → nat_lt (nested_number nests q) (length nested.procedures) ≡ true
      by (Some p) is = within p (gone catalog nests text are q p is)
      by None is = let below : q < length catalog.procedures = ltb-true _ _ l in absurd (none_within catalog.procedures q below is)

  trigger_too : (on : On) → trigger_in_range nested on ≡ trigger_in_range catalog on
  trigger_too (OnStream s) = refl
  trigger_too (OnWindow w) = ap (nat_lt w) (length-map catalog.windows (nested_window nests))

  inner_in : (k : OneNest catalog nests) → list_all (λ s. nat_lt s (length catalog.streams)) (inner_streams catalog (k.nest).members) ≡ true
  inner_in k = all_numbers (λ s. nat_lt s (length catalog.streams)) (inner_streams catalog (k.nest).members) (λ s a.
      let (m, b, emits) = some_of (λ m. procedure_emits catalog m s) (k.nest).members (inner_emits catalog accepted (k.nest).members (are.each k.place k.nest k.stands) are.plain k.head k.first k.at_head k.first_is s a) in
      lt-ltb _ _ (accepted.structure.streams.wired.emits_there m s emits))

  ranges_too : numbers_in_range catalog ≡ true → numbers_in_range nested ≡ true
  ranges_too h =
      let triggers = first_of_two _ _ h in
      let windows = first_of_two _ _ triggers in
      and_from _ _ (and_from _ _ (and_from _ _ (first_of_two _ _ windows)
      (all_mapped (λ (d : WindowDef). nat_lt d.owner (length nested.procedures)) (nested_window nests) (λ d. nat_lt d.owner (length catalog.procedures)) (λ d e. owner_in d.owner e) catalog.windows (second_of_two _ _ windows)))
      ((λ i. list_all (λ t. trigger_too t.on i) catalog.triggers) ∙ second_of_two _ _ triggers))
      (every (λ p. list_all (λ s. nat_lt s (length catalog.streams)) (streams_read p) && touch_in_range p.args p.touch) (second_of_two _ _ h) (λ k e.
      and_from _ _
      (ap (list_all (λ s. nat_lt s (length catalog.streams))) (behind_is (k.first).inputs (inner_streams catalog (k.nest).members))
      ∙ all_behind (λ s. nat_lt s (length catalog.streams)) (k.first).inputs (inner_streams catalog (k.nest).members)
      (subst (λ z. list_all (λ s. nat_lt s (length catalog.streams)) (and_behind (k.first).inputs z) ≡ true) (are.plain k.head k.first k.first_is).0 (first_of_two _ _ e)) (inner_in k))
      (second_of_two _ _ e)))

  numbers_too : has_distinct_numbers catalog ≡ true → has_distinct_numbers nested ≡ true
  numbers_too h =
      and_from _ _ (first_of_two _ _ h)
      (every (λ p. numbers_distinct (streams_read p) && numbers_distinct (listed_parts p.touch)) (second_of_two _ _ h) (λ k e.
      and_from _ _
      (ap numbers_distinct (behind_is (k.first).inputs (inner_streams catalog (k.nest).members))
      ∙ distinct_both (k.first).inputs (inner_streams catalog (k.nest).members) (inputs_apart catalog accepted k.head k.first k.first_is are.plain) (range_distinct _ 0 (length catalog.streams)) (λ s takes a.
      let outside = first_outside catalog accepted (k.nest).members (are.each k.place k.nest k.stands) are.plain k.head k.first k.at_head k.first_is s a in
      let wrong : true ≡ false = sym takes ∙ sym (takes_is catalog accepted k.head k.first k.first_is s) ∙ outside in cc))
      (second_of_two _ _ e)))

  -- ---- limits

  fewer : nat_le (length nested.procedures) 64 ≡ true
  fewer =
      let count : length nested.procedures ≡ kept_from nests 0 (length catalog.procedures) = how_many (nest_procedure catalog) nests 0 catalog.procedures in
      let most : length (filter (is_kept nests) (range_with_len 0 (length catalog.procedures))) ≤ length (range_with_len 0 (length catalog.procedures)) = no_more (is_kept nests) (range_with_len 0 (length catalog.procedures)) in
      let all : length (range_with_len 0 (length catalog.procedures)) ≡ length catalog.procedures = length-range_with_len 0 (length catalog.procedures) in
      let few : length catalog.procedures ≤ 64 = few_procedures catalog accepted.form in
      le-leb (length nested.procedures) 64 (omega arith)

  limits_too : counts_within_limits catalog ≡ true → counts_within_limits nested ≡ true
  limits_too h =
      let inputs = first_of_two _ _ h in
      let args = first_of_two _ _ inputs in
      let windows = first_of_two _ _ args in
      let streams = first_of_two _ _ windows in
      let tables = first_of_two _ _ streams in
      let procedures = first_of_two _ _ tables in
      let triggers = first_of_two _ _ procedures in
      let window_count = first_of_two _ _ triggers in
      and_from _ _ (and_from _ _ (and_from _ _ (and_from _ _ (and_from _ _ (and_from _ _ (and_from _ _ (and_from _ _ (and_from _ _
      (first_of_two _ _ window_count) (ap (λ n. nat_le n 32) (length-map catalog.windows (nested_window nests)) ∙ second_of_two _ _ window_count)) (second_of_two _ _ triggers)) fewer)
      (second_of_two _ _ tables)) (second_of_two _ _ streams)) (windows_too (λ d. nat_le (length d.schema) 16) (λ d e. e) (second_of_two _ _ windows)))
      (every (λ p. nat_le (length p.args) 16) (second_of_two _ _ args) (λ k e. e)))
      (every (λ p. nat_le (length p.inputs) 8) (second_of_two _ _ inputs) (λ k e. e)))
      (second_of_two _ _ h)

  parts_too : has_parts catalog ≡ true → has_parts nested ≡ true
  parts_too h =
      let windows = first_of_two _ _ h in
      and_from _ _ (and_from _ _ (first_of_two _ _ windows) (windows_too (λ d. is_some_list d.schema) (λ d e. e) (second_of_two _ _ windows))) (second_of_two _ _ h)

  -- ---- all of it

  pub nested_frame : has_frame nested ≡ true
  nested_frame =
      let parts = first_of_two _ _ frame in
      let numbers = first_of_two _ _ parts in
      let sizes = first_of_two _ _ numbers in
      let limits = first_of_two _ _ sizes in
      let ranges = first_of_two _ _ limits in
      and_from _ _ (and_from _ _ (and_from _ _ (and_from _ _ (and_from _ _ (and_from _ _
      (names_too (first_of_two _ _ ranges)) (ranges_too (second_of_two _ _ ranges))) (limits_too (second_of_two _ _ limits)))
      (windows_too (λ d. nat_le 1 d.slide && nat_le d.slide d.size && nat_le d.size 65536) (λ d e. e) (second_of_two _ _ sizes)))
      (numbers_too (second_of_two _ _ numbers))) (parts_too (second_of_two _ _ parts)))
      (every head_of_kind (second_of_two _ _ frame) (λ k e. e))
