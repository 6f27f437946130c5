-- What it says of a value that it comes only where a test holds.
use Rattle.std.proofs.Common.{◌≡◌, Bool, true, false, refl, Some}
use Rattle.ss_lemmas.proofs.Bools.{some_same}
use Rattle.ss_model.specs.Database.{only_when}

pub of_value : {A : Type 0} (b : Bool) (x y : A) → only_when b (Some x) ≡ Some y → x ≡ y
of_value true x y e = some_same x y e
of_value false x y e = cc

pub when_value : {A : Type 0} (b : Bool) (x y : A) → only_when b (Some x) ≡ Some y → b ≡ true
when_value true x y e = refl
when_value false x y e = cc
