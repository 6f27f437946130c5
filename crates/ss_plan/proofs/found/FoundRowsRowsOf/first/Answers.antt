use Rattle.std.proofs.Common.{◌≡◌, ℕ, List, length, Some, None, slice_get, refl, sym, subst}
use Rattle.std.specs.Borrow.{Bor}
use Rattle.std.proofs.lemmas.Option.{slice_get_past, slice_get_read}
use Rattle.ss_value.specs.Rows.{Row}
use Rattle.ss_plan.specs.Found.{pairs_found}
use Rattle.ss_plan.proofs.AtPositions.{first_lent, none_lent}
use Rattle.ss_plan.proofs.found.FoundRowsRowsOf.first.Goals as goal

pub returns-in-Some : goal.returns-in-Some
returns-in-Some c =
    let rows = c.as_slice.result.now in
    let there : slice_get rows 0 ≡ Some c.in-Some.field-0.now = slice_get_read rows (length rows) 0 c.in-Some.field-0.now refl c.in-Some.ensures.lookup.3.0 c.in-Some.ensures.lookup.1 in
    first_lent (pairs_found c.args.self.now) c.in-Some.field-0.now (subst (λ (rows : List (ℕ × Bor Row)). slice_get rows 0 ≡ Some c.in-Some.field-0.now) c.as_slice.ensures there)

pub returns-in-None : goal.returns-in-None
returns-in-None c =
    none_lent (pairs_found c.args.self.now) (sym (subst (λ (rows : List (ℕ × Bor Row)). slice_get rows 0 ≡ None) c.as_slice.ensures (slice_get_past c.as_slice.result.now 0 c.in-None.ensures.lookup.3)))
