-- Marks side by side.
use Rattle.std.specs.Prelude.{ℕ, List, map}
use Rattle.ss_fragment.specs.declared.mark.PrefixedSlot.{PrefixedSlot}

-- the slots of marks
abbrev pub slots_of : List PrefixedSlot → List ℕ
slots_of marks = map (λ m. m.slot) marks
