-- Where parts stand among others.
use Rattle.std.proofs.Common.{◌≡◌, ℕ, ◌==◌, ◌||◌, suc, true, false, cond, List, [], ◌∷◌, refl, sym, ◌∙◌, Option, Some, None, option_map}
use Rattle.std.specs.Prelude.{is_some}
use Rattle.ss_table.specs.Routes.{place_among}
use Rattle.ss_index.specs.Parts.{holds}

some_behind : (o : Option ℕ) → is_some (option_map suc o) ≡ is_some o
some_behind None = refl
some_behind (Some n) = refl

-- an index holds the parts that have a place in its table
pub held_as : (ps : List ℕ) (p : ℕ) → holds ps p ≡ is_some (place_among ps p)
held_as [] p = refl
held_as (q ∷ ps) p = elim (q == p) as (λ b. (b || holds ps p) ≡ is_some (cond b (Some 0) (option_map suc (place_among ps p)))) [
  | true ↦ refl
  | false ↦ held_as ps p ∙ sym (some_behind (place_among ps p))
]
