-- Where the inputs of a member go in its nest, and in which nest a procedure is, as the program has it.
use Rattle.std.specs.Prelude.{ℕ, Bool, List, [], ◌∷◌, cond, get_or, length, map, Option, Some, None}
use Rattle.std.specs.List.{find}
use Rattle.ss_model.specs.declared.catalog.Nest.{Nest}
use Rattle.ss_model.specs.Nests.{is_head, position_of}
use Rattle.ss_nest.specs.declared.moved.Moves.{Moves}
use Rattle.ss_nest.specs.Members.{stands_in}

-- the position of an input
abbrev pub moved_by : Moves → ℕ → ℕ
moved_by m i = get_or m.positions i m.behind

-- where these inputs go in a nest that reads these streams
abbrev pub moves_in : List ℕ → List ℕ → Moves
moves_in reads inputs = record { positions = map (λ s. position_of s reads) inputs; behind = length reads }

-- whether a procedure is a member
abbrev pub has_member : ℕ → Nest → Bool
has_member q nest = stands_in nest.members q

-- the nest that a procedure is in
abbrev pub nest_with : List Nest → ℕ → Option Nest
nest_with nests q = find (has_member q) nests

-- what stands in the place of an item of procedure q, which is in this nest: what the nest has in its head's place, and else nothing
abbrev pub placed : {A : Type 0} → (Nest → A → A) → Option Nest → ℕ → A → List A
placed of_nest None q x = x ∷ []
placed of_nest (Some nest) q x = cond (is_head q nest.members) (of_nest nest x ∷ []) []
