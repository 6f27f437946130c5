-- A list that is another one without some of its items.
use Rattle.std.specs.Prelude.{◌≡◌, ◌⊎◌, List, [], ◌∷◌}

-- the first list is the second without some of its items
abbrev pub IsPartOf : {A : Type 0} → List A → List A → Type 0
IsPartOf [] ys = Unit {0}
IsPartOf (x ∷ xs) [] = ⊥
IsPartOf (x ∷ xs) (y ∷ ys) = ((x ≡ y) × IsPartOf xs ys) ⊎ IsPartOf (x ∷ xs) ys
