-- Values in the order of their tags.
use Rattle.std.specs.Prelude.{◌≡◌, ℕ, suc, List, [], ◌∷◌}

-- The tags count up from n.
abbrev pub TagsFrom : {T : Type 0} → (T → ℕ) → ℕ → List T → Type 0
TagsFrom tag n [] = Unit {0}
TagsFrom tag n (x ∷ xs) = (tag x ≡ n) × TagsFrom tag (suc n) xs
