-- The part of a row, by its key.
use Rattle.std.specs.Prelude.{ℕ, ◌≤◌, ◌==◌, suc, cond, option_map, List, [], ◌∷◌, Option, Some, None, slice_get, unwrap_or}
use Rattle.ss_value.specs.declared.value.Value.{Value}
use Rattle.ss_value.specs.ValuePartition.{value_partition}
use Rattle.ss_value.specs.Rows.{Row}
use Rattle.ss_table.specs.declared.route.Route.{Route}
use Rattle.ss_table.specs.declared.route.Route.TheVariants.{Placed, Split}

-- the part of a value that may be missing
abbrev pub optional_part : ℕ → Option Value → ℕ
optional_part n None = 0
optional_part n (Some v) = value_partition n v

-- the part of the row of this key
abbrev pub part_of : Route → Row → ℕ
part_of (Placed p) key = p
part_of (Split c n) key = optional_part n (slice_get key c)

-- where a part stands among these, if it does
abbrev pub place_among : List ℕ → ℕ → Option ℕ
place_among [] p = None
place_among (q ∷ qs) p = cond (q == p) (Some 0) (option_map suc (place_among qs p))

-- where the rows of a part stand: the first has those of a part that none is of
abbrev pub place_of : List ℕ → ℕ → ℕ
place_of parts p = unwrap_or (place_among parts p) 0

-- a split route has a part at least
abbrev pub IsRoute : Route → Type 0
IsRoute (Placed p) = Unit {0}
IsRoute (Split c n) = 1 ≤ n
