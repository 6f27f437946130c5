-- What a list becomes when the loan of one of its items ends.
use Rattle.std.specs.Prelude.{ℕ, List, Option, slice_set}
use Rattle.std.specs.Borrow.{LendsIf, RattleType, MutBor, Fml}
use Rattle.ss_value.specs.contracts.seq.Seq.{the_row}

-- the list with the last value of the loan r at this position, and as it was where r is None
abbrev pub LendsItem : (T : RattleType) → MutBor (List T.Denot) → ℕ → Option (MutBor T.Denot) → Fml
LendsItem T s at r = LendsIf (the_row T) T s r (slice_set s.now at) s.now
