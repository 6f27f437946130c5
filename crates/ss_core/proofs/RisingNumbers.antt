-- Numbers that rise, in the front of a list and with one more at its end.
use Rattle.std.proofs.Common.{ℕ, ◌<◌, List, [], ◌∷◌, ◌++◌}
use Rattle.std.specs.List.{AllByRecursion}
use Rattle.ss_model.specs.Report.{Rising}

pub rising_front : (xs ys : List ℕ) → Rising (xs ++ ys) → Rising xs
rising_front [] ys h = tt
rising_front (x ∷ []) ys h = tt
rising_front (x ∷ z ∷ xs) ys h = (h.0, rising_front (z ∷ xs) ys h.1)

pub rising_end : (xs : List ℕ) (y : ℕ) → Rising xs → AllByRecursion (λ x. x < y) xs → Rising (xs ++ y ∷ [])
rising_end [] y h b = tt
rising_end (x ∷ []) y h b = (b.0, tt)
rising_end (x ∷ z ∷ xs) y h b = (h.0, rising_end (z ∷ xs) y h.1 b.1)
