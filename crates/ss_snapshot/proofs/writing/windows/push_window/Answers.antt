use Rattle.std.proofs.Common.{◌≡◌, ◌∙◌, ◌++◌, ◌^◌, All, List, sym, ap, subst, arith}
use Rattle.std.specs.List.{flat_map}
use Rattle.std.proofs.Common.{drop}
use Rattle.ss_value.specs.Rows.{Rows}
use Rattle.ss_record.specs.Numbers.{number_bytes}
use Rattle.ss_window.specs.WindowValue.{WindowValue, outdated_count, unit_count}
use Rattle.ss_standing.specs.FitsImage.{FitRows}
use Rattle.ss_standing.specs.Image.{counted_rows, window_bytes}
use Rattle.ss_snapshot.proofs.Pieces.{three_pieces}
use Rattle.ss_snapshot.proofs.writing.windows.push_window.Goals as goal

-- a committed window holds only units that may still be seen
pub push_units-requires : goal.push_units-requires
push_units-requires c = sym (ap (λ (h : WindowValue). h.fresh) c.requires)

pub returns-clause-spelled : goal.returns-clause-spelled
returns-clause-spelled c =
    let h = c.args.window.now in
    let same : drop (outdated_count h) h.kept ≡ h.kept = ap (λ (w : WindowValue). w.kept) c.requires in
    three_pieces c.args.out.now.items c.push_long.new.out.items c.push_count.new.out.items c.push_units.new.out.items (number_bytes 8 c.units.result) (number_bytes 4 c.kept_count.result)
    (flat_map (counted_rows 8) h.kept) c.in_ok-push_long.ensures.spelled c.in_ok-push_count.ensures.spelled c.in_ok-push_units.ensures.spelled
    ∙ (λ k. c.args.out.now.items ++ (number_bytes 8 (c.units.ensures k) ++ number_bytes 4 (c.kept_count.ensures k) ++ flat_map (counted_rows 8) h.kept))
    ∙ ap (λ (us : List Rows). c.args.out.now.items ++ window_bytes (unit_count h, us)) (sym same)

pub returns-clause-fits : goal.returns-clause-fits
returns-clause-fits c =
    let h = c.args.window.now in
    let same : drop (outdated_count h) h.kept ≡ h.kept = ap (λ (w : WindowValue). w.kept) c.requires in
    (omega (arith, c.in_ok-push_long.ensures.fits, c.units.ensures), subst (All (FitRows (2 ^ 64))) (sym same) c.in_ok-push_units.ensures.fits)
