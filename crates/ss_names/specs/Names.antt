-- Names, and lists of them.
use Rattle.std.specs.Prelude.{◌≡◌, ◌<◌, ◌++◌, ℕ, List, Bool, length, map, take}
use Rattle.std.specs.Borrow.{Bor}
use Rattle.std.specs.List.{list_any}
use Rattle.std.specs.Str.{bytes_eq}
use Rattle.ss_value.specs.declared.schema.Column.{Column}

-- whether a name is one of these
abbrev pub is_among : List (List ℕ) → List ℕ → Bool
is_among names name = list_any (bytes_eq name) names

-- the same names, in any order and any number of times
abbrev pub AreSameNames : List (List ℕ) → List (List ℕ) → Type 0
AreSameNames these those = (name : List ℕ) → is_among these name ≡ is_among those name

-- the names that were there, and those of some first items of a list, but not of all
abbrev pub HasSomeOf : {X : Type 0} → (X → List ℕ) → List X → List (List ℕ) → List (List ℕ) → Type 0
HasSomeOf name items old new = (n : ℕ) × (n < length items) × AreSameNames new (old ++ map name (take n items))

-- the bytes behind references
abbrev pub bytes_behind : List (Bor (List ℕ)) → List (List ℕ)
bytes_behind = map (λ (b : Bor (List ℕ)). b.now)

-- a name by itself
abbrev pub itself : List ℕ → List ℕ
itself name = name

abbrev pub column_name : Column → List ℕ
column_name c = c.name
