use Rattle.std.proofs.Common.{◌≡◌, ◌≤◌, ◌<◌, ℕ, length, get_or, Option, Some, None, slice_get, refl, sym, ap, ◌∙◌}
use Rattle.std.specs.Prelude.{is_some}
use Rattle.std.specs.Option.{option_copied, IfSome}
use Rattle.std.specs.Borrow.{Bor}
use Rattle.std.proofs.Common.{nat_lt}
use Rattle.std.proofs.lemmas.Option.{slice_get_past, slice_get-get_or}
use Rattle.std.proofs.lemmas.Bool.{ltb-true, ltb-false}
use Rattle.ss_value.specs.Rows.{Row, Rows}
use Rattle.ss_plan.proofs.Meant.{row_there, none_there}
use Rattle.ss_plan.proofs.listed.listed_row.Goals as goal

looked_up : (rows : Rows) (at : ℕ) (r : Option (Bor Row)) → is_some r ≡ nat_lt at (length rows) → IfSome r (λ (x : Bor Row). x.now ≡ get_or rows at x.now) → option_copied r ≡ slice_get rows at
looked_up rows at None is h = let past : length rows ≤ at = ltb-false _ _ (sym is) in sym (slice_get_past rows at past)
looked_up rows at (Some x) is h = let within : at < length rows = ltb-true _ _ (sym is) in sym (slice_get-get_or rows at x.now within ∙ ap Some (sym h))

pub returns-clause-some : goal.returns-clause-some
returns-clause-some c = λ row behind stands. looked_up c.args.rows.now c.args.at c.get.result c.get.ensures.lookup.0 c.get.ensures.lookup.1 ∙ row_there c.args.rows.now c.args.at row behind stands

pub returns-clause-none : goal.returns-clause-none
returns-clause-none c = λ e. nothing c.get.result (looked_up c.args.rows.now c.args.at c.get.result c.get.ensures.lookup.0 c.get.ensures.lookup.1 ∙ none_there c.args.rows.now c.args.at e)
  where
    nothing : (r : Option (Bor Row)) → option_copied r ≡ None → r ≡ None
    nothing None e = refl
    nothing (Some x) e = cc
