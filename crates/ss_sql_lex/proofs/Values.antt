-- Numbers grow by each digit.
use Rattle.std.proofs.Common.{◌≡◌, ℕ, suc, ◌+◌, ◌*◌, ◌-◌, ◌≤◌, ◌<◌, List, [], ◌∷◌, Bool, true, false, length, get_or, drop, drop-cons, arith}
use Rattle.std.specs.Prelude.{nat_lt, ◌&&◌}
use borrow.Author.Tests.{ltb-true}
use Rattle.std.proofs.lemmas.Bool.Decides.{nat_tests}
use Rattle.ss_sql_lex.specs.Spelling.{value_from, is_run, is_number}
use Rattle.ss_sql_lex.specs.Bytes.{is_digit}

pub value_low : (n : ℕ) (ds : List ℕ) → n ≤ value_from n ds
value_low n [] = omega arith
value_low n (d ∷ ds) = let h = value_low (10 * n + (d - 48)) ds in omega arith

past : (m : ℕ) → 9223372036854775808 ≤ m → false ≡ nat_lt m 9223372036854775808
past m h = grind (arith, nat_tests)

pub too_big : (v i : ℕ) (ds : List ℕ) (m : ℕ) → i < length ds → 922337203685477580 < v → value_from v (drop i ds) ≡ m → false ≡ nat_lt m 9223372036854775808
too_big v i ds m lt big e =
    let f : value_from v (get_or ds i 0 ∷ drop (suc i) ds) ≡ m = rw (drop-cons ds i 0) at e in
    let h = value_low (10 * v + (get_or ds i 0 - 48)) (drop (suc i) ds) in
    past m (omega (arith, f, h))

-- a number is below the limit
pub number_small : (own : List ℕ) → is_number own ≡ true → value_from 0 own < 9223372036854775808
number_small own e = ltb-true (value_from 0 own) 9223372036854775808 (second_true (is_run is_digit own) (nat_lt (value_from 0 own) 9223372036854775808) e)
  where
    second_true : (a b : Bool) → (a && b) ≡ true → b ≡ true
    second_true true b e = e
    second_true false b e = absurd cc

-- and so is what a digit makes of its beginning
pub number_grows : (v i : ℕ) (ds : List ℕ) → i < length ds → value_from v (drop i ds) ≡ value_from 0 ds → is_number ds ≡ true → 10 * v + (get_or ds i 0 - 48) < 9223372036854775808
number_grows v i ds lt e is =
    let f : value_from v (get_or ds i 0 ∷ drop (suc i) ds) ≡ value_from 0 ds = rw (drop-cons ds i 0) at e in
    let h = value_low (10 * v + (get_or ds i 0 - 48)) (drop (suc i) ds) in
    let s = number_small ds is in
    omega (arith, f, h, s)
