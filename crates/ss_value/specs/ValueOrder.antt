-- The order of values and of rows is total, and only equal ones tie.
use Rattle.std.proofs.Common.{◌≡◌, refl, ap, true≢false}
use Rattle.std.specs.declared.cmp.Ordering.TheVariants.{Less, Equal}
use Rattle.std.specs.Ordering.{ordering_reverse, is_lt, is_gt}
use Rattle.std.specs.Cmp.{IsTotalOrder, int_cmp_total}
use Rattle.std.specs.Cmp.Lexicographic.{lists_total, nat_list_cmp_total}
use Rattle.std.specs.FinMap.{IsAntisymmetric, nat_cmp-IsAntisymmetric, int_cmp-IsAntisymmetric, slice_cmp-IsAntisymmetric}
use Rattle.ss_value.specs.declared.value.Value.{Value}
use Rattle.ss_value.specs.declared.value.Value.TheVariants.{Int, Text}
use Rattle.ss_value.specs.Order.{value_cmp, row_cmp}

flip : (x y : Value) → value_cmp x y ≡ ordering_reverse (value_cmp y x)
flip (Int a) (Int b) = int_cmp_total.antisymm a b
flip (Int a) (Text t) = refl
flip (Text s) (Int b) = refl
flip (Text s) (Text t) = nat_list_cmp_total.antisymm s t

chain : (x y z : Value) → value_cmp x y ≡ Less → value_cmp y z ≡ Less → value_cmp x z ≡ Less
chain (Int a) (Int b) (Int c) e f = int_cmp_total.trans a b c e f
chain (Int a) (Int b) (Text u) e f = refl
chain (Int a) (Text t) (Int c) e f = absurd (true≢false (ap is_gt f))
chain (Int a) (Text t) (Text u) e f = refl
chain (Text s) (Int b) z e f = absurd (true≢false (ap is_gt e))
chain (Text s) (Text t) (Int c) e f = absurd (true≢false (ap is_gt f))
chain (Text s) (Text t) (Text u) e f = nat_list_cmp_total.trans s t u e f

level : (x y z : Value) → value_cmp x y ≡ Equal → value_cmp x z ≡ value_cmp y z
level (Int a) (Int b) (Int c) e = int_cmp_total.congr a b c e
level (Int a) (Int b) (Text u) e = refl
level (Int a) (Text t) z e = absurd (true≢false (ap is_lt e))
level (Text s) (Int b) z e = absurd (true≢false (ap is_gt e))
level (Text s) (Text t) (Int c) e = refl
level (Text s) (Text t) (Text u) e = nat_list_cmp_total.congr s t u e

pub value_cmp_total : IsTotalOrder value_cmp
value_cmp_total = record { antisymm = flip; trans = chain; congr = level }

pub value_cmp-IsAntisymmetric : IsAntisymmetric value_cmp
value_cmp-IsAntisymmetric (Int a) (Int b) e = ap Int (int_cmp-IsAntisymmetric a b e)
value_cmp-IsAntisymmetric (Int a) (Text t) e = absurd (true≢false (ap is_lt e))
value_cmp-IsAntisymmetric (Text s) (Int b) e = absurd (true≢false (ap is_gt e))
value_cmp-IsAntisymmetric (Text s) (Text t) e = ap Text (slice_cmp-IsAntisymmetric nat_cmp-IsAntisymmetric s t e)

pub row_cmp_total : IsTotalOrder row_cmp
row_cmp_total = lists_total value_cmp_total

pub row_cmp-IsAntisymmetric : IsAntisymmetric row_cmp
row_cmp-IsAntisymmetric = slice_cmp-IsAntisymmetric value_cmp-IsAntisymmetric
