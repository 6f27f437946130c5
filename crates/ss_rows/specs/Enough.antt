-- What the walk over the sources finds.
use Rattle.std.specs.Prelude.{◌≡◌, ◌⊎◌, ℕ, ◌≤◌, List, [], ◌++◌, length, Option, Some, None, Ok}
use Rattle.ss_model.specs.Results.{OrAbort}

-- `count` tuples are enough; where all are wanted, no count is
abbrev pub Reaches : Option ℕ → ℕ → Type 0
Reaches None count = ⊥
Reaches (Some enough) count = enough ≤ count

-- what is found is all of them, or so many of the first ones that they are enough
abbrev pub FirstOf : {A : Type 0} → Option ℕ → OrAbort (List A) → List A → Type 0
FirstOf {A} enough all found = (rest : List A) × (all ≡ Ok (found ++ rest)) × ((rest ≡ []) ⊎ Reaches enough (length found))
