-- What a hash table holds of the list of names beside it.
use Rattle.std.specs.Prelude.{ℕ, ◌≡◌, Bool, List, None, Some, cond, position}
use Rattle.std.specs.Borrow.{Bor}
use Rattle.std.specs.Option.{option_or}
use Rattle.std.specs.Str.{bytes_eq}
use Rattle.indexmap.specs.IndexMap.{IndexMap, get}

-- the same bytes, behind two references
abbrev pub same_bytes : Bor (List ℕ) → Bor (List ℕ) → Bool
same_bytes a b = bytes_eq a.now b.now

-- a hash table has for each name its first position in a list, and has no other name
abbrev pub IsIndexOf : {S : Type 0} → List (List ℕ) → IndexMap (Bor (List ℕ)) ℕ S → Type 0
IsIndexOf names index = (name : Bor (List ℕ)) → get same_bytes index name ≡ position (bytes_eq name.now) names

-- a hash table after a name was entered at a position: it has what it had, and the name at that position unless it had the name
abbrev pub IsNotedAt : {S : Type 0} → ℕ → Bor (List ℕ) → IndexMap (Bor (List ℕ)) ℕ S → IndexMap (Bor (List ℕ)) ℕ S → Type 0
IsNotedAt at name before after =
    (other : Bor (List ℕ)) → get same_bytes after other ≡ option_or (get same_bytes before other) (cond (same_bytes name other) (Some at) None)
