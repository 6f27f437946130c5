-- A tree has one answer: it has no fault, or it has one least fault.
use Rattle.std.specs.Prelude.{◌≡◌, List, []}
use Rattle.ss_sql_type.specs.declared.scope.TypeError.{TypeError}
use Rattle.ss_sql_type.specs.Refusals.{IsLeast}

-- faults have one least at most
abbrev pub OneRefusal : Type 0
OneRefusal = (faults : List TypeError) (e f : TypeError) → IsLeast faults e → IsLeast faults f → e ≡ f

-- where there is no fault there is no least one
abbrev pub RefusedOrTyped : Type 0
RefusedOrTyped = (e : TypeError) → IsLeast [] e → ⊥
