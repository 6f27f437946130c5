-- The partition of a value.
use Rattle.std.specs.Prelude.{ℕ, pos, ◌%◌, unsigned_abs, sum}
use Rattle.std.specs.Int.{int_rem_euclid}
use Rattle.ss_value.specs.declared.value.Value.{Value}
use Rattle.ss_value.specs.declared.value.Value.TheVariants.{Int, Text}

-- of an Int by its Euclidean remainder, of a Text by the sum of its bytes
abbrev pub value_partition : ℕ → Value → ℕ
value_partition n (Int z) = unsigned_abs (int_rem_euclid z (pos n))
value_partition n (Text s) = sum s % n
