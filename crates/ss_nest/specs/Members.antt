-- Which procedures are the members of a nest, by their names, and what is there twice.
use Rattle.std.specs.Prelude.{◌==◌, ℕ, Bool, ◌&&◌, ◌||◌, List, [], ◌∷◌, ◌++◌, cond, slice_get, Option, Some, None, Result, Ok, Err}
use Rattle.std.specs.List.{find, flat_map, list_any}
use Rattle.std.specs.Option.{option_map}
use Rattle.std.specs.Str.{bytes_eq}
use Rattle.ss_model.specs.declared.catalog.Catalog.{Catalog}
use Rattle.ss_model.specs.declared.catalog.Nest.{Nest}
use Rattle.ss_model.specs.Database.{is_streaming}
use Rattle.ss_model.specs.Orders.{procedure_has}
use Rattle.ss_model.specs.Settling.{procedure_numbers}
use Rattle.ss_catalog.specs.Checks.{procedure_name}
use Rattle.ss_nest.specs.declared.outline.NestOutline.{NestOutline}
use Rattle.ss_catalog_json.specs.Readings.{◌>>=◌}

-- ---- members by number; where there is none of a name, that name

-- the number, or the name where there is none
abbrev pub number_or_name : List ℕ → Option ℕ → Result ℕ (List ℕ)
number_or_name name None = Err name
number_or_name name (Some q) = Ok q

module _ (c : Catalog) where
  -- whether the procedure of this number is a border or an interior one of this name
  abbrev pub is_member_named : List ℕ → ℕ → Bool
  is_member_named name q = procedure_has (λ p. is_streaming p.kind && bytes_eq p.name name) (slice_get c.procedures q)

  -- the first that is
  abbrev pub member_named : List ℕ → Option ℕ
  member_named name = find (is_member_named name) (procedure_numbers c)

  -- the number of a name, or the name where it is no such procedure's
  abbrev pub member_of : List ℕ → Result ℕ (List ℕ)
  member_of name = number_or_name name (member_named name)

  -- the numbers of names, or the first name that is no such procedure's
  abbrev pub members_of : List (List ℕ) → Result (List ℕ) (List ℕ)
  members_of [] = Ok []
  members_of (name ∷ names) = member_of name >>= λ q. members_of names >>= λ qs. Ok (q ∷ qs)

  -- a nest as it is written, with its procedures by number
  abbrev pub nest_of : NestOutline → Result Nest (List ℕ)
  nest_of o = members_of o.procedures >>= λ members. Ok (record { name = o.name; members = members })

  -- all of them
  abbrev pub nests_of : List NestOutline → Result (List Nest) (List ℕ)
  nests_of [] = Ok []
  nests_of (o ∷ os) = nest_of o >>= λ nest. nests_of os >>= λ nests. Ok (nest ∷ nests)

-- ---- what is there twice

-- whether a number is one of these
abbrev pub stands_in : List ℕ → ℕ → Bool
stands_in ns q = list_any (λ n. n == q) ns

-- the first of some procedures that is one of these, or of those before it
abbrev pub again : List ℕ → List ℕ → Option ℕ
again before [] = None
again before (q ∷ qs) = cond (stands_in before q) (Some q) (again (before ++ q ∷ []) qs)

-- the first one, and else the next
abbrev pub or_next : {A : Type 0} → Option A → Option A → Option A
or_next None next = next
or_next (Some a) next = Some a

-- the procedures of some nests, one nest's behind another's
abbrev pub all_members : List Nest → List ℕ
all_members = flat_map (λ (nest : Nest). nest.members)

module _ (c : Catalog) where
  -- whether a name is that of a procedure, or of one of these nests
  abbrev pub is_taken : List Nest → List ℕ → Bool
  is_taken before name = list_any (λ p. bytes_eq p.name name) c.procedures || list_any (λ (nest : Nest). bytes_eq nest.name name) before

  -- the name of the first procedure of a nest that one of these nests has, too, or that the nest has twice
  abbrev pub member_again : List Nest → Nest → Option (List ℕ)
  member_again before nest = option_map (procedure_name c) (again (all_members before) nest.members)

  -- the first name that is there twice, of nests behind these: of each nest its own goes before those of its procedures
  abbrev pub twice_behind : List Nest → List Nest → Option (List ℕ)
  twice_behind before [] = None
  twice_behind before (nest ∷ nests) =
      cond (is_taken before nest.name) (Some nest.name) (or_next (member_again before nest) (twice_behind (before ++ nest ∷ []) nests))

  abbrev pub twice_in : List Nest → Option (List ℕ)
  twice_in = twice_behind []
