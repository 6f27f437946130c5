-- What the front of a WHERE decides, and why what a plan finds is enough.
use Rattle.std.specs.Prelude.{◌≡◌, false, [], ◌∷◌, Option, Ok}
use Rattle.ss_value.specs.Rows.{Row}
use Rattle.ss_sql_trees.specs.declared.typed.Expr.{Expr}
use Rattle.ss_model.specs.Queries.{where_passes}
use Rattle.ss_rows.specs.Sources.{Positioned}
use Rattle.ss_plan.specs.Fronts.{meets_run}
use Rattle.ss_plan.specs.Keys.{Finds}
use Rattle.ss_plan.specs.Scans.{positioned_matching}

-- law: a row that fails a comparison in the front of a WHERE fails WHERE, which doesn't abort on it, whatever stands behind
abbrev pub FrontDecides : Type 0
FrontDecides = (params : Row) (test : Option Expr) (row : Row) → meets_run params test row ≡ false → where_passes params test (row ∷ []) ≡ Ok false

-- law: of the rows that a search found the same pass WHERE as of all, in the same order, or the same test aborts
abbrev pub FoundAreEnough : Type 0
FoundAreEnough =
    (params : Row) (test : Option Expr) (all some : Positioned) → Finds params test all some → positioned_matching params test some ≡ positioned_matching params test all
