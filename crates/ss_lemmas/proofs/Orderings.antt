-- What a test of an ordering says.
use Rattle.std.proofs.Common.{◌≡◌, T, true, refl, Ordering, Less, Equal, Greater}
use Rattle.std.specs.Ordering.{is_lt, is_eq}

pub equal_test : (r : Ordering) → is_eq r ≡ true → r ≡ Equal
equal_test Less e = cc
equal_test Equal e = refl
equal_test Greater e = cc

pub less_test : (r : Ordering) → is_lt r ≡ true → r ≡ Less
less_test Less e = refl
less_test Equal e = cc
less_test Greater e = cc

pub is_less : (r : Ordering) → T (is_lt r) → r ≡ Less
is_less Less e = refl
is_less Equal e = absurd e
is_less Greater e = absurd e
