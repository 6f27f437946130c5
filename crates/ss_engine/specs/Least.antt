-- The least member of a set of small numbers.
use Rattle.std.specs.Prelude.{ℕ}
use Rattle.std.specs.Int.{IsBitSet}
pub use Rattle.ss_settle.specs.Members.{NoneBelow}

-- a member, below which there is none
abbrev pub IsLeastIn : ℕ → ℕ → Type 0
IsLeastIn set p = IsBitSet set p × NoneBelow p set
