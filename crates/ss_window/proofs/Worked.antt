-- A window that meets the premises of the laws: three units are visible, and it moves on by two.
use Rattle.std.proofs.Common.{◌≡◌, ℕ, [], ◌∷◌, true, false, pos, refl, arith}
use Rattle.ss_value.specs.declared.Unit.TheVariants.{Batches}
use Rattle.ss_value.specs.declared.value.Value.TheVariants.{Int}
use Rattle.ss_value.specs.Rows.{Row}
use Rattle.ss_window.specs.WindowValue.{WindowValue, stage, commit, shown_rows, moves_end, WindowInvariant}

-- a row of one number
abbrev row : ℕ → Row
row n = Int (pos n) ∷ []

-- after five units, of which the first two are dropped; the fourth is empty
abbrev after_five : WindowValue
after_five = record { unit = Batches; size = 3; slide = 2; gone = 2; kept = (row 3 ∷ []) ∷ [] ∷ (row 5 ∷ row 6 ∷ []) ∷ []; fresh = 0 }

-- the sixth is staged, and then the seventh
abbrev after_six : WindowValue
after_six = stage after_five (row 7 ∷ [])

abbrev after_seven : WindowValue
after_seven = stage after_six (row 8 ∷ [])

five_held : WindowInvariant after_five
five_held = record { moves = omega arith; within = omega arith; bounded = omega arith; recent = omega arith; given_up = refl; countable = omega arith }

seven_held : WindowInvariant after_seven
seven_held = record { moves = omega arith; within = omega arith; bounded = omega arith; recent = omega arith; given_up = refl; countable = omega arith }

-- the sixth unit doesn't move the end, and isn't shown
sixth_stays : moves_end after_five ≡ false
sixth_stays = refl

sixth_unseen : shown_rows after_six ≡ row 3 ∷ row 5 ∷ row 6 ∷ []
sixth_unseen = refl

-- the seventh moves it
seventh_moves : moves_end after_six ≡ true
seventh_moves = refl

seventh_seen : shown_rows after_seven ≡ row 5 ∷ row 6 ∷ row 7 ∷ row 8 ∷ []
seventh_seen = refl

-- and then two units more are dropped
seven_settled : commit after_seven ≡ record after_five { gone = 4; kept = (row 5 ∷ row 6 ∷ []) ∷ (row 7 ∷ []) ∷ (row 8 ∷ []) ∷ [] }
seven_settled = refl
