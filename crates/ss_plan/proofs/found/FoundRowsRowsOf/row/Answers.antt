use Rattle.std.proofs.Common.{◌≡◌, ℕ, List, length, Some, None, slice_get, refl, sym, subst, ◌∙◌, true≢false}
use Rattle.std.specs.Borrow.{Bor}
use Rattle.std.proofs.lemmas.Option.{slice_get_past, slice_get_read}
use Rattle.ss_value.specs.Rows.{Row}
use Rattle.ss_rows.specs.Sources.{rows_in}
use Rattle.ss_plan.specs.Found.{pairs_found, rows_found}
use Rattle.ss_plan.proofs.AtPositions.{row_there, row_lent, no_lent, position_lent}
use Rattle.ss_plan.proofs.found.FoundRowsRowsOf.row.Goals as goal

at_its_place : (c : goal.In-Some) → slice_get (pairs_found c.args.self.now) c.args.at ≡ Some c.in-Some.field-0.now
at_its_place c =
    let rows = c.as_slice.result.now in
    let there : slice_get rows c.args.at ≡ Some c.in-Some.field-0.now = slice_get_read rows (length rows) c.args.at c.in-Some.field-0.now refl c.in-Some.ensures.lookup.3.0 c.in-Some.ensures.lookup.1 in
    subst (λ (rows : List (ℕ × Bor Row)). slice_get rows c.args.at ≡ Some c.in-Some.field-0.now) c.as_slice.ensures there

pub returns-in-Some-clause-some : goal.returns-in-Some-clause-some
returns-in-Some-clause-some c = λ row behind s.
    sym (row_lent (pairs_found c.args.self.now) c.args.at c.in-Some.field-0.now (at_its_place c)) ∙ row_there (rows_in (rows_found c.args.self.now)) c.args.at row behind s

pub returns-in-Some-clause-none : goal.returns-in-Some-clause-none
returns-in-Some-clause-none c = λ none.
    absurd (true≢false (sym (position_lent (pairs_found c.args.self.now) c.args.at c.in-Some.field-0.now (at_its_place c)) ∙ none))

pub returns-in-None-clause-some : goal.returns-in-None-clause-some
returns-in-None-clause-some c = λ row behind s.
    let none = subst (λ (rows : List (ℕ × Bor Row)). slice_get rows c.args.at ≡ None) c.as_slice.ensures (slice_get_past c.as_slice.result.now c.args.at c.in-None.ensures.lookup.3) in
    sym (no_lent (pairs_found c.args.self.now) c.args.at (sym none)) ∙ row_there (rows_in (rows_found c.args.self.now)) c.args.at row behind s
