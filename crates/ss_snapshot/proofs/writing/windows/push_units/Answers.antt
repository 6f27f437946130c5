use Rattle.std.proofs.Common.{◌^◌, [], sym, arith}
use Rattle.ss_standing.specs.FitsImage.{FitRows}
use Rattle.ss_standing.specs.Image.{counted_rows}
use Rattle.ss_snapshot.proofs.Pieces.{spelled_none, spelled_found, spelled_all, found_within}
use Rattle.ss_snapshot.proofs.writing.windows.push_units.Goals as goal

pub loop-at-init : goal.loop-at-init
loop-at-init c = spelled_none (counted_rows 8) (FitRows (2 ^ 64)) c.args.out.now.items

pub unreachable-requires : goal.unreachable-requires
unreachable-requires c = found_within c.args.window.now.kept c.loop-at.at [] (omega arith) c.in_default.ensures

pub loop-at-preserved : goal.loop-at-preserved
loop-at-preserved c =
    spelled_found (counted_rows 8) (FitRows (2 ^ 64)) c.args.out.now.items c.args.window.now.kept c.loop-at.at c.in-Some.unit.now c.loop-at.out.items c.push_unit.new.out.items (sym c.in-Some.ensures)
    c.loop-at.invariant c.in_ok-push_unit.ensures.spelled c.in_ok-push_unit.ensures.fits

pub returns : goal.returns
returns c =
    let all = spelled_all (counted_rows 8) (FitRows (2 ^ 64)) c.args.out.now.items c.args.window.now.kept c.loop-at.at c.loop-at.out.items (omega arith) c.loop-at.invariant in
    record { spelled = all.spelled; fits = all.fits }
