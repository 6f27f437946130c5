-- A list with reserved room.
use Rattle.std.specs.Prelude.{ℕ, List}

pub record ReservedList (T : Type 0) : Type 0 where
  pub items : List T
  -- how many pushes cannot fail
  pub spare : ℕ
