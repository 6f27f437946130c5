-- Where a nest reads the batches of its members' inputs.
use Rattle.std.proofs.Common.{◌≡◌, ◌+◌, ◌==◌, ◌||◌, not, cond, ℕ, zero, suc, Bool, true, false, List, [], ◌∷◌, ◌++◌, map, length, get_or, slice_get, refl, sym, ap, ◌∙◌, Some, None, arith}
use Rattle.std.specs.declared.option.Option.{Option}
use Rattle.std.specs.List.{list_any}
use Rattle.std.proofs.lemmas.Bool.{or_parts, or_right}
use Rattle.std.proofs.lemmas.List.{length-append, length-map, get_or_past}
use Rattle.ss_value.specs.Rows.{Rows}
use Rattle.ss_model.specs.Results.{and_behind}
use Rattle.ss_model.specs.CatalogForm.{numbers_distinct}
use Rattle.ss_model.specs.Nests.{position_of, moved_input}
use Rattle.ss_model.proofs.CallerLemmas.{behind_is}
use Rattle.ss_lemmas.proofs.Numbers.{eqb_self, eqb_is}
use Rattle.ss_lemmas.proofs.Bools.{first_of_two, second_of_two, some_same, any_at}

either_or : (a b : Bool) → (a || b) ≡ true → a ≡ false → b ≡ true
either_or true b e f = cc
either_or false b e f = e

-- behind all inputs
found_behind : (batches : List Rows) (inputs inner : List ℕ) (g : ℕ → Rows) (s : ℕ) → length batches ≡ length inputs → list_any (λ i. i == s) inputs ≡ false → get_or (batches ++ map g inner) (position_of s (inputs ++ inner)) [] ≡ get_or (map g inner) (position_of s inner) []
found_behind [] [] inner g s l none = refl
found_behind [] (t ∷ ts) inner g s l none = absurd (omega arith)
found_behind (b ∷ bs) [] inner g s l none = absurd (omega arith)
found_behind (b ∷ bs) (t ∷ ts) inner g s l none =
    let (here, rest) = or_parts (t == s) (list_any (λ i. i == s) ts) none in
    ap (λ z. get_or (b ∷ (bs ++ map g inner)) (cond z 0 (suc (position_of s (ts ++ inner)))) []) here ∙ found_behind bs ts inner g s (omega arith) rest

-- at an inner stream
found_inner : (inner : List ℕ) (g : ℕ → Rows) (s : ℕ) → list_any (λ i. i == s) inner ≡ true → get_or (map g inner) (position_of s inner) [] ≡ g s
found_inner [] g s e = cc
found_inner (t ∷ ts) g s e = by (found_inner ts g s) (t == s) refl
  where
    by : (list_any (λ i. i == s) ts ≡ true → get_or (map g ts) (position_of s ts) [] ≡ g s) → (b : Bool) → (t == s) ≡ b → get_or (map g (t ∷ ts)) (position_of s (t ∷ ts)) [] ≡ g s
    by later true is = ap (λ z. get_or (map g (t ∷ ts)) (cond z 0 (suc (position_of s ts))) []) is ∙ ap g (eqb_is t s is)
    by later false is = ap (λ z. get_or (map g (t ∷ ts)) (cond z 0 (suc (position_of s ts))) []) is ∙ later (either_or (t == s) _ e is)

-- at no stream
past_all : (batches : List Rows) (inputs inner : List ℕ) (g : ℕ → Rows) → length batches ≡ length inputs → get_or (batches ++ map g inner) (length (inputs ++ inner)) [] ≡ []
past_all batches inputs inner g l =
    let here : length (batches ++ map g inner) ≡ length batches + length (map g inner) = length-append batches (map g inner) in
    let there : length (inputs ++ inner) ≡ length inputs + length inner = length-append inputs inner in
    let made : length (map g inner) ≡ length inner = length-map inner g in
    get_or_past (batches ++ map g inner) (length (inputs ++ inner)) [] (omega arith)

each_found : (seen base : List Rows) (reads xs : List ℕ) → get_or seen (length reads) [] ≡ [] → ((s : ℕ) → list_any (λ i. i == s) xs ≡ true → get_or seen (position_of s reads) [] ≡ get_or base s []) → (i : ℕ) → get_or seen (moved_input reads xs i) [] ≡ get_or (map (λ s. get_or base s []) xs) i []
each_found seen base reads [] past h i = past
each_found seen base reads (x ∷ xs) past h zero = h x (ap (λ b. b || list_any (λ i. i == x) xs) (eqb_self x))
each_found seen base reads (x ∷ xs) past h (suc i) = each_found seen base reads xs past (λ s e. h s (or_right (x == s) _ e)) i

-- the inputs of a later member are inner streams
pub later_stands : (batches base e : List Rows) (inputs inner takes : List ℕ) → length batches ≡ length inputs →
    ((s : ℕ) → list_any (λ i. i == s) takes ≡ true → list_any (λ i. i == s) inputs ≡ false) → ((s : ℕ) → list_any (λ i. i == s) takes ≡ true → list_any (λ i. i == s) inner ≡ true) →
    ((s : ℕ) → list_any (λ i. i == s) takes ≡ true → get_or e s [] ≡ get_or base s []) →
    (i : ℕ) → get_or (and_behind batches (map (λ s. get_or e s []) inner)) (moved_input (and_behind inputs inner) takes i) [] ≡ get_or (map (λ s. get_or base s []) takes) i []
later_stands batches base e inputs inner takes l outside inside same i =
    let g : ℕ → Rows = λ s. get_or e s [] in
    (λ j. get_or (behind_is batches (map g inner) j) (moved_input (behind_is inputs inner j) takes i) [])
    ∙ each_found (batches ++ map g inner) base (inputs ++ inner) takes (past_all batches inputs inner g l)
    (λ s t. found_behind batches inputs inner g s l (outside s t) ∙ found_inner inner g s (inside s t) ∙ same s t) i

-- the inputs of the first member are those of the nest
first_position : (inputs ys : List ℕ) (i s : ℕ) → numbers_distinct inputs ≡ true → slice_get inputs i ≡ Some s → position_of s (inputs ++ ys) ≡ i
first_position [] ys i s d is = cc
first_position (t ∷ ts) ys zero s d is =
    let same : t ≡ s = some_same t s is in
    ap (λ z. cond z 0 (suc (position_of s (ts ++ ys)))) (ap (λ z. z == s) same ∙ eqb_self s)
first_position (t ∷ ts) ys (suc i) s d is = by (first_position ts ys i s (second_of_two _ _ d) is) (t == s) refl
  where
    off : (b : Bool) → not b ≡ true → b ≡ true → ⊥
    off true e f = cc
    off false e f = cc

    by : position_of s (ts ++ ys) ≡ i → (b : Bool) → (t == s) ≡ b → position_of s ((t ∷ ts) ++ ys) ≡ suc i
    by later true e = absurd (off _ (first_of_two _ _ d) (any_at (λ m. t == m) ts i s is e))
    by later false e = ap (λ z. cond z 0 (suc (position_of s (ts ++ ys)))) e ∙ ap suc later

front : (batches more : List Rows) (inputs : List ℕ) (i s : ℕ) → length batches ≡ length inputs → slice_get inputs i ≡ Some s → get_or (batches ++ more) i [] ≡ get_or batches i []
front batches more [] i s l is = cc
front [] more (t ∷ ts) i s l is = absurd (omega arith)
front (b ∷ bs) more (t ∷ ts) zero s l is = refl
front (b ∷ bs) more (t ∷ ts) (suc i) s l is = front bs more ts i s (omega arith) is

mapped_at : (f : ℕ → ℕ) (xs : List ℕ) (i d s : ℕ) → slice_get xs i ≡ Some s → get_or (map f xs) i d ≡ f s
mapped_at f [] i d s is = cc
mapped_at f (x ∷ xs) zero d s is = ap f (some_same x s is)
mapped_at f (x ∷ xs) (suc i) d s is = mapped_at f xs i d s is

mapped_past : (f : ℕ → ℕ) (xs : List ℕ) (i d : ℕ) → slice_get xs i ≡ None → get_or (map f xs) i d ≡ d
mapped_past f [] i d is = refl
mapped_past f (x ∷ xs) zero d is = cc
mapped_past f (x ∷ xs) (suc i) d is = mapped_past f xs i d is

nothing_at : (batches : List Rows) (inputs : List ℕ) (i : ℕ) → length batches ≡ length inputs → slice_get inputs i ≡ None → get_or batches i [] ≡ []
nothing_at [] inputs i l is = refl
nothing_at (b ∷ bs) [] i l is = absurd (omega arith)
nothing_at (b ∷ bs) (t ∷ ts) zero l is = cc
nothing_at (b ∷ bs) (t ∷ ts) (suc i) l is = nothing_at bs ts i (omega arith) is

pub first_stands : (batches e : List Rows) (inputs inner : List ℕ) → length batches ≡ length inputs → numbers_distinct inputs ≡ true →
    (i : ℕ) → get_or (and_behind batches (map (λ s. get_or e s []) inner)) (moved_input (and_behind inputs inner) inputs i) [] ≡ get_or batches i []
first_stands batches e inputs inner l distinct i =
    let g : ℕ → Rows = λ s. get_or e s [] in
    (λ j. get_or (behind_is batches (map g inner) j) (moved_input (behind_is inputs inner j) inputs i) []) ∙ by (slice_get inputs i) refl
  where
    seen : List Rows
    seen = batches ++ map (λ s. get_or e s []) inner

    by : (o : Option ℕ) → slice_get inputs i ≡ o → get_or seen (moved_input (inputs ++ inner) inputs i) [] ≡ get_or batches i []
    by (Some s) is =
        ap (λ z. get_or seen z []) (mapped_at (λ s. position_of s (inputs ++ inner)) inputs i (length (inputs ++ inner)) s is ∙ first_position inputs inner i s distinct is)
        ∙ front batches _ inputs i s l is
    by None is =
        ap (λ z. get_or seen z []) (mapped_past (λ s. position_of s (inputs ++ inner)) inputs i (length (inputs ++ inner)) is)
        ∙ past_all batches inputs inner (λ s. get_or e s []) l ∙ sym (nothing_at batches inputs i l is)
