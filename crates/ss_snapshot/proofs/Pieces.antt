-- Items that are spelled one after another, in a loop.
use Rattle.std.proofs.Common.{◌≡◌, ◌∙◌, ℕ, Some, None, ◌+◌, ◌<◌, ◌≤◌, List, [], ◌∷◌, ◌++◌, length, map, take, get_or, All, sym, ap, subst, append-nil, append_assoc}
use Rattle.std.specs.List.{flat_map, slice_get}
use Rattle.std.proofs.lemmas.Option.{none-some, slice_get_within, slice_get-get_or, get_or_from_slice_get}
use Rattle.std.proofs.lemmas.List.{take_more, flat_map_more, take_all}
use Rattle.std.proofs.lemmas.List.Elements.{All-more, All-map, All-nil}
use Rattle.std.proofs.lemmas.List.Folds.{flat_map-map}

-- behind the old bytes these items are spelled, and each of them fits
pub record Spelled {A : Type 0} (spell : A → List ℕ) (Fits : A → Type 0) (old now : List ℕ) (done : List A) : Type 0 where
  pub spelled : now ≡ old ++ flat_map spell done
  pub fits : All Fits done

module _ {A : Type 0} (spell : A → List ℕ) (Fits : A → Type 0) (old : List ℕ) where
  -- none yet
  pub spelled_none : Spelled spell Fits old old []
  spelled_none = record { spelled = sym (append-nil old); fits = All-nil Fits }

  -- one more
  pub spelled_more : (xs : List A) (i : ℕ) (x : A) (now next : List ℕ) → i < length xs → x ≡ get_or xs i x → Spelled spell Fits old now (take i xs)
      → next ≡ now ++ spell x → Fits x → Spelled spell Fits old next (take (i + 1) xs)
  spelled_more xs i x now next there is so_far added one =
      let taken : take (i + 1) xs ≡ take i xs ++ x ∷ [] = take_more xs i x there ∙ ap (λ (y : A). take i xs ++ y ∷ []) (sym is) in
      record {
        spelled = added ∙ ap (λ (l : List ℕ). l ++ spell x) so_far.spelled ∙ flat_map_more spell old (take i xs) x ∙ ap (λ (l : List A). old ++ flat_map spell l) (sym taken);
        fits = All-more Fits xs i x there so_far.fits (subst Fits is one);
      }

  -- all of them
  pub spelled_all : (xs : List A) (n : ℕ) (now : List ℕ) → length xs ≤ n → Spelled spell Fits old now (take n xs) → Spelled spell Fits old now xs
  spelled_all xs n now end so_far = subst (Spelled spell Fits old now) (take_all n xs end) so_far

-- the same, of what the items stand for
pub spelled_as : {A B : Type 0} (spell : A → List ℕ) (Fits : A → Type 0) (told : B → A) (old now : List ℕ) (done : List B)
    → Spelled (λ b. spell (told b)) (λ b. Fits (told b)) old now done → Spelled spell Fits old now (map told done)
spelled_as spell Fits told old now done so_far =
    record { spelled = so_far.spelled ∙ ap (λ (l : List ℕ). old ++ l) (sym (flat_map-map spell told done)); fits = All-map Fits told done so_far.fits }

-- one more, where the item is found at its position
pub spelled_found : {A : Type 0} (spell : A → List ℕ) (Fits : A → Type 0) (old : List ℕ) (xs : List A) (i : ℕ) (x : A) (now next : List ℕ) → slice_get xs i ≡ Some x
    → Spelled spell Fits old now (take i xs) → next ≡ now ++ spell x → Fits x → Spelled spell Fits old next (take (i + 1) xs)
spelled_found spell Fits old xs i x now next found so_far added one =
    spelled_more spell Fits old xs i x now next (slice_get_within xs i x found) (sym (get_or_from_slice_get xs i x x found)) so_far added one

-- an item inside the list is found
pub found_within : {A : Type 0} (xs : List A) (i : ℕ) (d : A) → i < length xs → None ≡ slice_get xs i → ⊥
found_within xs i d there none = none-some (get_or xs i d) (none ∙ slice_get-get_or xs i d there)

-- ---- pieces, one after another

pub two_pieces : (m0 m1 m2 a b : List ℕ) → m1 ≡ m0 ++ a → m2 ≡ m1 ++ b → m2 ≡ m0 ++ (a ++ b)
two_pieces m0 m1 m2 a b h1 h2 = h2 ∙ ap (λ l. l ++ b) h1 ∙ append_assoc m0 a b

pub three_pieces : (m0 m1 m2 m3 a b c : List ℕ) → m1 ≡ m0 ++ a → m2 ≡ m1 ++ b → m3 ≡ m2 ++ c → m3 ≡ m0 ++ (a ++ b ++ c)
three_pieces m0 m1 m2 m3 a b c h1 h2 h3 = h3 ∙ ap (λ l. l ++ c) (two_pieces m0 m1 m2 a b h1 h2) ∙ append_assoc m0 (a ++ b) c
