-- What stands in a catalogue with nests, by number: of procedures, texts and bodies alike.
use Rattle.std.proofs.Common.{◌≡◌, ◌==◌, ◌||◌, ◌+◌, ℕ, zero, suc, Bool, true, false, cond, List, [], ◌∷◌, ◌++◌, length, get_or, slice_get, unwrap_or, refl, sym, ap, ◌∙◌, Some, None, arith}
use Rattle.std.specs.declared.option.Option.{Option}
use Rattle.std.specs.List.{filter, list_any, range_with_len}
use Rattle.std.proofs.lemmas.Bool.{or_left, or_parts}
use Rattle.std.proofs.lemmas.List.Folds.{list_any-append}
use Rattle.std.proofs.lemmas.Option.{unwrap_or-slice_get}
use Rattle.std.specs.Option.{option_map}
use Rattle.ss_model.specs.declared.catalog.Nest.{Nest}
use Rattle.ss_model.specs.Nests.{numbers_apart, nest_head, is_head, is_tail, item_in_place, items_in_place, stands_for}
use Rattle.ss_lemmas.proofs.Bools.{some_same, is_false}
use Rattle.ss_lemmas.proofs.Numbers.{eqb_self}
use Rattle.ss_nest_laws.proofs.Lists.{among, head_among, apart_behind, not_both}
use Rattle.ss_nest_laws.proofs.NestNumbers.{all_members, among_all}

-- whether a procedure has a place of its own
abbrev pub is_kept : List Nest → ℕ → Bool
is_kept nests q = stands_for nests q == q

-- ---- places are numbered one after another

abbrev pub kept_from : List Nest → ℕ → ℕ → ℕ
kept_from nests a k = length (filter (is_kept nests) (range_with_len a k))

kept_more : (nests : List Nest) (a k : ℕ) → kept_from nests a (suc k) ≡ cond (is_kept nests a) (suc (kept_from nests (suc a) k)) (kept_from nests (suc a) k)
kept_more nests a k =
    let next : a + 1 ≡ suc a = omega arith in
    (λ i. length (cond (is_kept nests a) (a ∷ filter (is_kept nests) (range_with_len (next i) k)) (filter (is_kept nests) (range_with_len (next i) k)))) ∙ by (is_kept nests a)
  where
    by : (b : Bool) → length (cond b (a ∷ filter (is_kept nests) (range_with_len (suc a) k)) (filter (is_kept nests) (range_with_len (suc a) k))) ≡ cond b (suc (kept_from nests (suc a) k)) (kept_from nests (suc a) k)
    by true = refl
    by false = refl

-- ---- a place is one item or none

-- one nest before others: of the tests, whether an item is that of its first member, and whether it is another one's
module _ {A : Type 0} (m q stood : ℕ) (made other : A) (rest : List A) where
  abbrev place : Bool → Bool → List A
  place first later = cond (cond (first || later) m stood == q) (cond first made other ∷ []) []

  one_place : (first later : Bool) → (m == q) ≡ first → rest ≡ cond (stood == q) (other ∷ []) [] → cond first (made ∷ []) (cond later [] rest) ≡ place first later
  one_place true later is h = sym (ap (λ b. cond b (made ∷ []) []) is)
  one_place false true is h = sym (ap (λ b. cond b (other ∷ []) []) is)
  one_place false false is h = h

module _ {A : Type 0} (of_nest : Nest → A → A) where
  -- what stands in the place of an item that has one
  abbrev pub placed_item : List Nest → ℕ → A → A
  placed_item [] q x = x
  placed_item (nest ∷ nests) q x = cond (is_head q nest.members) (of_nest nest x) (placed_item nests q x)

  in_place_is : (nests : List Nest) (q : ℕ) (x : A) → item_in_place of_nest nests q x ≡ cond (is_kept nests q) (placed_item nests q x ∷ []) []
  in_place_is [] q x = ap (λ b. cond b (x ∷ []) []) (sym (eqb_self q))
  in_place_is (nest ∷ nests) q x = by nest.members (in_place_is nests q x)
    where
      by : (ms : List ℕ) → (item_in_place of_nest nests q x ≡ cond (is_kept nests q) (placed_item nests q x ∷ []) []) →
          cond (is_head q ms) (of_nest nest x ∷ []) (cond (is_tail q ms) [] (item_in_place of_nest nests q x))
          ≡ cond (cond (list_any (λ n. n == q) ms) (unwrap_or (slice_get ms 0) q) (stands_for nests q) == q) (cond (is_head q ms) (of_nest nest x) (placed_item nests q x) ∷ []) []
      by [] later = later
      by (m ∷ ms) later = one_place m q (stands_for nests q) (of_nest nest x) (placed_item nests q x) (item_in_place of_nest nests q x) (m == q) (list_any (λ n. n == q) ms) refl later

  -- what stands in the place of the item that is k behind this number
  pub there : (nests : List Nest) (a : ℕ) (xs : List A) (k : ℕ) (x : A) → slice_get xs k ≡ Some x → is_kept nests (a + k) ≡ true → slice_get (items_in_place of_nest nests a xs) (kept_from nests a k) ≡ Some (placed_item nests (a + k) x)
  there nests a [] k x is kept = cc
  there nests a (y ∷ xs) zero x is kept =
      let same : a + 0 ≡ a = omega arith in
      let here : is_kept nests a ≡ true = ap (is_kept nests) (sym same) ∙ kept in
      ap (λ (z : List A). slice_get (z ++ items_in_place of_nest nests (suc a) xs) 0) (in_place_is nests a y ∙ ap (λ b. cond b (placed_item nests a y ∷ []) []) here)
      ∙ (λ i. Some (placed_item nests (sym same i) (some_same y x is i)))
  there nests a (y ∷ xs) (suc k) x is kept =
      let same : suc a + k ≡ a + suc k = omega arith in
      let later = there nests (suc a) xs k x is (ap (is_kept nests) same ∙ kept) in
      (λ i. slice_get (in_place_is nests a y i ++ items_in_place of_nest nests (suc a) xs) (kept_more nests a k i))
      ∙ by (is_kept nests a) later ∙ ap (λ z. Some (placed_item nests z x)) same
    where
      by : (b : Bool) → slice_get (items_in_place of_nest nests (suc a) xs) (kept_from nests (suc a) k) ≡ Some (placed_item nests (suc a + k) x) →
          slice_get (cond b (placed_item nests a y ∷ []) [] ++ items_in_place of_nest nests (suc a) xs) (cond b (suc (kept_from nests (suc a) k)) (kept_from nests (suc a) k)) ≡ Some (placed_item nests (suc a + k) x)
      by true h = h
      by false h = h

  -- behind all items nothing
  pub not_there : (nests : List Nest) (a : ℕ) (xs : List A) (k : ℕ) → slice_get xs k ≡ None → slice_get (items_in_place of_nest nests a xs) (kept_from nests a k) ≡ None
  not_there nests a [] k is = refl
  not_there nests a (y ∷ xs) zero is = cc
  not_there nests a (y ∷ xs) (suc k) is =
      (λ i. slice_get (in_place_is nests a y i ++ items_in_place of_nest nests (suc a) xs) (kept_more nests a k i)) ∙ by (is_kept nests a) (not_there nests (suc a) xs k is)
    where
      by : (b : Bool) → slice_get (items_in_place of_nest nests (suc a) xs) (kept_from nests (suc a) k) ≡ None →
          slice_get (cond b (placed_item nests a y ∷ []) [] ++ items_in_place of_nest nests (suc a) xs) (cond b (suc (kept_from nests (suc a) k)) (kept_from nests (suc a) k)) ≡ None
      by true h = h
      by false h = h

  -- as many as have a place
  pub how_many : (nests : List Nest) (a : ℕ) (xs : List A) → length (items_in_place of_nest nests a xs) ≡ kept_from nests a (length xs)
  how_many nests a [] = refl
  how_many nests a (x ∷ xs) =
      ap (λ (z : List A). length (z ++ items_in_place of_nest nests (suc a) xs)) (in_place_is nests a x)
      ∙ by (is_kept nests a) (how_many nests (suc a) xs) ∙ sym (kept_more nests a (length xs))
    where
      by : (b : Bool) → length (items_in_place of_nest nests (suc a) xs) ≡ kept_from nests (suc a) (length xs) →
          length (cond b (placed_item nests a x ∷ []) [] ++ items_in_place of_nest nests (suc a) xs) ≡ cond b (suc (kept_from nests (suc a) (length xs))) (kept_from nests (suc a) (length xs))
      by true h = ap suc h
      by false h = h

  -- each stands in the place of one of the list
  pub record Placed (nests : List Nest) (a : ℕ) (xs : List A) (n : ℕ) (made : A) : Type 0 where
    pub offset : ℕ
    pub was : A
    pub stood : slice_get xs offset ≡ Some was
    pub kept : is_kept nests (a + offset) ≡ true
    pub number : kept_from nests a offset ≡ n
    pub made_is : placed_item nests (a + offset) was ≡ made

  pub back : (nests : List Nest) (a : ℕ) (xs : List A) (n : ℕ) (made : A) → slice_get (items_in_place of_nest nests a xs) n ≡ Some made → Placed nests a xs n made
  back nests a [] n made is = cc
  back nests a (x ∷ xs) n made is =
      by (is_kept nests a) refl (back nests (suc a) xs) n (sym (ap (λ z. slice_get (z ++ items_in_place of_nest nests (suc a) xs) n) (in_place_is nests a x)) ∙ is)
    where
      by : (b : Bool) → is_kept nests a ≡ b → ((n : ℕ) (made : A) → slice_get (items_in_place of_nest nests (suc a) xs) n ≡ Some made → Placed nests (suc a) xs n made) →
          (n : ℕ) → slice_get (cond b (placed_item nests a x ∷ []) [] ++ items_in_place of_nest nests (suc a) xs) n ≡ Some made → Placed nests a (x ∷ xs) n made
      by true kept rest zero e =
          let here : a + 0 ≡ a = omega arith in
          record {
            offset = 0;
            was = x;
            stood = refl;
            kept = ap (is_kept nests) here ∙ kept;
            number = refl;
            made_is = ap (λ z. placed_item nests z x) here ∙ some_same _ made e;
          }
      by true kept rest (suc n) e =
          let h = rest n made e in
          let next : suc a + h.offset ≡ a + suc h.offset = omega arith in
          record {
            offset = suc h.offset;
            was = h.was;
            stood = h.stood;
            kept = ap (is_kept nests) (sym next) ∙ h.kept;
            number = kept_more nests a h.offset ∙ ap (λ b. cond b (suc (kept_from nests (suc a) h.offset)) (kept_from nests (suc a) h.offset)) kept ∙ ap suc h.number;
            made_is = ap (λ z. placed_item nests z h.was) (sym next) ∙ h.made_is;
          }
      by false kept rest n e =
          let h = rest n made e in
          let next : suc a + h.offset ≡ a + suc h.offset = omega arith in
          record {
            offset = suc h.offset;
            was = h.was;
            stood = h.stood;
            kept = ap (is_kept nests) (sym next) ∙ h.kept;
            number = kept_more nests a h.offset ∙ ap (λ b. cond b (suc (kept_from nests (suc a) h.offset)) (kept_from nests (suc a) h.offset)) kept ∙ h.number;
            made_is = ap (λ z. placed_item nests z h.was) (sym next) ∙ h.made_is;
          }

  -- ---- what it is

  -- in the place of a first member what its nest has
  pub placed_head : (nests : List Nest) → numbers_apart (all_members nests) ≡ true → (i : ℕ) (nest : Nest) → slice_get nests i ≡ Some nest → (head : ℕ) → nest_head nest ≡ Some head → (x : A) → placed_item nests head x ≡ of_nest nest x
  placed_head [] once i nest is head at_head x = cc
  placed_head (m ∷ ms) once zero nest is head at_head x =
      let same : m ≡ nest = some_same m nest is in
      (λ j. cond (is_head head (same j).members) (of_nest (same j) x) (placed_item ms head x))
      ∙ ap (λ b. cond b (of_nest nest x) (placed_item ms head x)) (first_is nest.members at_head)
    where
      first_is : (ms : List ℕ) → slice_get ms 0 ≡ Some head → is_head head ms ≡ true
      first_is [] e = cc
      first_is (n ∷ ns) e = ap (λ z. z == head) (some_same n head e) ∙ eqb_self head
  placed_head (m ∷ ms) once (suc i) nest is head at_head x =
      ap (λ b. cond b (of_nest m x) (placed_item ms head x)) (is_false _ (λ e. not_both m.members (all_members ms) once head (of_head m.members head e) (among_all ms i nest is head (head_among nest.members head at_head))))
      ∙ placed_head ms (apart_behind m.members (all_members ms) once) i nest is head at_head x
    where
      of_head : (ms : List ℕ) (q : ℕ) → is_head q ms ≡ true → among q ms ≡ true
      of_head [] q e = cc
      of_head (n ∷ ns) q e = or_left (n == q) _ e

  -- in that of one outside all nests its own
  pub placed_alone : (nests : List Nest) (q : ℕ) → among q (all_members nests) ≡ false → (x : A) → placed_item nests q x ≡ x
  placed_alone [] q out x = refl
  placed_alone (m ∷ ms) q out x =
      let parts = or_parts _ _ (sym (list_any-append (λ n. n == q) m.members (all_members ms)) ∙ out) in
      ap (λ b. cond b (of_nest m x) (placed_item ms q x)) (no_head m.members parts.0) ∙ placed_alone ms q parts.1 x
    where
      no_head : (ms : List ℕ) → among q ms ≡ false → is_head q ms ≡ false
      no_head [] e = refl
      no_head (n ∷ ns) e = (or_parts (n == q) _ e).0

  -- ---- by number, with what stands where there is none

  pub item_at : (nests : List Nest) (xs : List A) (q : ℕ) (d : A) → is_kept nests q ≡ true → (o : Option A) → slice_get xs q ≡ o → get_or (items_in_place of_nest nests 0 xs) (kept_from nests 0 q) d ≡ unwrap_or (option_map (placed_item nests q) o) d
  item_at nests xs q d kept None is =
      sym (unwrap_or-slice_get (items_in_place of_nest nests 0 xs) (kept_from nests 0 q) d) ∙ ap (λ o. unwrap_or o d) (not_there nests 0 xs q is)
  item_at nests xs q d kept (Some x) is =
      let here : 0 + q ≡ q = omega arith in
      sym (unwrap_or-slice_get (items_in_place of_nest nests 0 xs) (kept_from nests 0 q) d)
      ∙ ap (λ o. unwrap_or o d) (there nests 0 xs q x is (ap (is_kept nests) here ∙ kept)) ∙ ap (λ z. placed_item nests z x) here
