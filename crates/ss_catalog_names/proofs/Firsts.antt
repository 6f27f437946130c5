-- A search for the first in several lists, one behind the other.
use Rattle.std.proofs.Common.{◌≡◌, ℕ, ◌+◌, ◌<◌, sym, ap, ◌∙◌, List, ◌++◌, length, get_or, drop, Option, None, Some}
use Rattle.std.specs.List.{flat_map}
use Rattle.std.specs.Option.{option_or}
use Rattle.ss_lemmas.proofs.LoopItem.{next}

module _ {A B : Type 0} (first : List A → Option B) (append : (front back : List A) → first (front ++ back) ≡ option_or (first front) (first back)) where
  -- it is in the first list
  pub found : (front back : List A) (b : B) → Some b ≡ first front → Some b ≡ first (front ++ back)
  found front back b e = sym (append front back ∙ ap (λ o. option_or o (first back)) (sym e))

  -- there is none in the first list
  pub not_found : (front back : List A) (r : Option B) → None ≡ first front → r ≡ first back → r ≡ first (front ++ back)
  not_found front back r e f = f ∙ sym (append front back ∙ ap (λ o. option_or o (first back)) (sym e))

  -- one turn of a loop over what has such lists
  module _ {X : Type 0} (f : X → List A) (xs : List X) (i : ℕ) (x : X) (h : i < length xs) (e : x ≡ get_or xs i x) (so_far : first (flat_map f xs) ≡ first (flat_map f (drop i xs))) where
    at_hand : first (flat_map f xs) ≡ option_or (first (f x)) (first (flat_map f (drop (i + 1) xs)))
    at_hand = so_far ∙ ap (λ ys. first (flat_map f ys)) (next xs i x h e) ∙ append (f x) (flat_map f (drop (i + 1) xs))

    -- it is in the item at hand
    pub found_here : (b : B) → Some b ≡ first (f x) → Some b ≡ first (flat_map f xs)
    found_here b here = sym (at_hand ∙ ap (λ o. option_or o (first (flat_map f (drop (i + 1) xs)))) (sym here))

    -- there is none in the item at hand
    pub not_found_here : None ≡ first (f x) → first (flat_map f xs) ≡ first (flat_map f (drop (i + 1) xs))
    not_found_here here = at_hand ∙ ap (λ o. option_or o (first (flat_map f (drop (i + 1) xs)))) (sym here)
