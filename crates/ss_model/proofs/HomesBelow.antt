-- The partition of a value and a home are partitions that run.
use Rattle.std.proofs.Common.{◌≤◌, ◌<◌, ◌+◌, ℕ, zero, suc, pos, negsuc, Bool, true, false, cond, [], Some, None, unwrap_or, arith, sum}
use Rattle.std.proofs.Math.Nat.{mod-lt}
use Rattle.std.specs.declared.option.Option.{Option}
use Rattle.std.specs.List.{find, range_with_len}
use Rattle.ss_value.specs.declared.value.Value.{Value}
use Rattle.ss_value.specs.declared.value.Value.TheVariants.{Int, Text}
use Rattle.ss_value.specs.ValuePartition.{value_partition}
use Rattle.ss_model.specs.declared.catalog.Procedure.{Procedure}
use Rattle.ss_model.specs.Partitions.{in_touch_set, home_partition}

pub value_part_below : (n : ℕ) (v : Value) → 1 ≤ n → value_partition n v < n
value_part_below n (Int (pos a)) some = mod-lt a some
value_part_below n (Int (negsuc a)) some = omega arith
value_part_below n (Text s) some = mod-lt (sum s) some

-- what is found in a range stands in it
found_below : (test : ℕ → Bool) (k a n : ℕ) → a + k ≤ n → 1 ≤ n → unwrap_or (find test (range_with_len a k)) 0 < n
found_below test zero a n l some = some
found_below test (suc k) a n l some = by (test a) (found_below test k (a + 1) n (omega arith) some)
  where
    by : (b : Bool) → unwrap_or (find test (range_with_len (a + 1) k)) 0 < n → unwrap_or (cond b (Some a) (find test (range_with_len (a + 1) k))) 0 < n
    by true h = omega arith
    by false h = h

pub home_below : (n : ℕ) (o : Option Procedure) → 1 ≤ n → home_partition n o < n
home_below n None some = some
home_below n (Some p) some = found_below (in_touch_set n p.touch []) n 0 n (omega arith) some
