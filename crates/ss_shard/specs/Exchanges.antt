-- Two lists of which some items change places.
use Rattle.std.specs.Prelude.{ℕ, Bool, List, get_or, cond}
use Rattle.ss_model.specs.Results.{map_indexed}

-- a list with the items of another at the places that pass a test
abbrev pub exchanged : {A : Type 0} → (ℕ → Bool) → List A → List A → List A
exchanged at xs ys = map_indexed (λ i x. cond (at i) (get_or ys i x) x) xs
