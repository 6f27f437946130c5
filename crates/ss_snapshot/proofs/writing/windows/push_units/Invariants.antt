use Rattle.std.proofs.Common.{◌^◌, take}
use Rattle.ss_standing.specs.FitsImage.{FitRows}
use Rattle.ss_standing.specs.Image.{counted_rows}
use Rattle.ss_snapshot.proofs.Pieces.{Spelled}
use Rattle.ss_snapshot.proofs.writing.windows.push_units.Given as goal

abbrev pub invariant-loop-at : goal.invariant-loop-at
invariant-loop-at l = Spelled (counted_rows 8) (FitRows (2 ^ 64)) l.fn.out.items l.out.items (take l.at l.window.kept)
