-- Keys of one kind whose second columns differ: so do their prefixes, and the keys compare as these do. No other key has such a
-- prefix, but where the number is at the end of the room that its Text leaves.
use Rattle.std.proofs.Common.{◌≡◌, ℕ, ◌<◌, [], ◌∷◌, length, true, false, codes, refl, sym, ◌∙◌, arith}
use Rattle.std.specs.Prelude.{pos, negsuc, ◌-◌, ◌^◌}
use Rattle.std.specs.declared.cmp.Ordering.TheVariants.{Less}
use Rattle.ss_value.specs.declared.value.Value.TheVariants.{Int, Text}
use Rattle.ss_value.specs.Rows.{Row}
use Rattle.ss_value.specs.Order.{row_cmp}
use Rattle.ss_fragment.specs.Prefixes.{key_prefix}
use Rattle.ss_fragment.specs.Deciding.{key_decides}
use Rattle.ss_fragment.proofs.Fronts.{keys_less}
use Rattle.ss_fragment.proofs.Deciding.{keys_same}

abbrev pub place : ℕ → Row
place id = Text (codes "trending") ∷ Int (pos id) ∷ []

first_prefix : key_prefix (place 1) ≡ 14488835540956971008
first_prefix = refl

second_prefix : key_prefix (place 2) ≡ 14488835540956971009
second_prefix = refl

pub second_column_decides : row_cmp (place 1) (place 2) ≡ Less
second_column_decides =
    let less : key_prefix (place 1) < key_prefix (place 2) = omega (arith, first_prefix, second_prefix) in
    keys_less (place 1) (place 2) less

first_decides : key_decides (place 1) ≡ true
first_decides = refl

pub no_other_key : (key : Row) → length key ≡ 2 → key_prefix key ≡ 14488835540956971008 → place 1 ≡ key
no_other_key key long same = keys_same (place 1) key (sym long) first_decides (first_prefix ∙ sym same)

far_ones_tie : key_prefix (place 2047) ≡ key_prefix (place 2048)
far_ones_tie = refl

pub far_ones_decide_nothing : key_decides (place 2047) ≡ false
far_ones_decide_nothing = refl

-- a lone Int decides, but not at a bound
pub lone_decides : key_decides (Int (negsuc 4) ∷ []) ≡ true
lone_decides = refl

bounds_tie : key_prefix (Int (pos (2 ^ 62 - 2)) ∷ []) ≡ key_prefix (Int (pos (2 ^ 62)) ∷ [])
bounds_tie = refl

pub bound_decides_nothing : key_decides (Int (pos (2 ^ 62 - 2)) ∷ []) ≡ false
bound_decides_nothing = refl

-- nor does one with a column more
pub first_of_two_decides_nothing : key_decides (Int (pos 7) ∷ Int (pos 1) ∷ []) ≡ false
first_of_two_decides_nothing = refl
