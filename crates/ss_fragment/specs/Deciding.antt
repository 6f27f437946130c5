-- Which prefixes decide the whole key: no other key of as many columns has the same one.
use Rattle.std.specs.Prelude.{ℕ, suc, ◌-◌, ◌*◌, ◌/◌, ◌^◌, ◌==◌, ◌&&◌, nat_lt, List, [], ◌∷◌, length, Bool, true, false, Option, Some, None, slice_get}
use Rattle.ss_value.specs.declared.value.Value.{Value}
use Rattle.ss_value.specs.declared.value.Value.TheVariants.{Int, Text}
use Rattle.ss_value.specs.Rows.{Row}
use Rattle.ss_fragment.specs.Prefixes.{number_prefix, next_prefix, share, column_at}

-- a number between 0 and a top, and neither of these: at the ends stand the numbers of many values
abbrev pub is_inside : ℕ → ℕ → Bool
is_inside number top = nat_lt 0 number && nat_lt number top

-- a Text ends in a room, and what stands behind it is inside of what is left
abbrev pub text_decides : ℕ → List ℕ → Option Value → Bool
text_decides room [] next = is_inside (next_prefix (32 * (room / 512)) next) (32 * (room / 512) - 1)
text_decides room (byte ∷ bytes) next = text_decides ((share (suc byte) - share byte) * (room / 512)) bytes next

-- a key of so many columns, of which these are the first two: a lone Int that isn't far from 0, or a Text and an Int that the room has
abbrev pub columns_decide : ℕ → Option Value → Option Value → Bool
columns_decide count None next = false
columns_decide count (Some (Int n)) next = count == 1 && is_inside (number_prefix n) (2 ^ 63 - 2)
columns_decide count (Some (Text t)) next = count == 2 && text_decides (2 ^ 63) t next

-- a key
abbrev pub key_decides : Row → Bool
key_decides key = columns_decide (length key) (slice_get key 0) (slice_get key 1)

-- what is sought, among keys of these columns: a key of as many values, or a row's key
abbrev pub sought_decides : Bool → List ℕ → Row → Bool
sought_decides true key sought = columns_decide (length key) (slice_get sought 0) (slice_get sought 1) && length sought == length key
sought_decides false key sought = columns_decide (length key) (column_at sought (slice_get key 0)) (column_at sought (slice_get key 1))
