use Rattle.std.proofs.Common.{take}
use Rattle.ss_window.specs.WindowValue.{WindowValue}
use Rattle.ss_shard.specs.Windows.{kept_part}
use Rattle.ss_standing.specs.FitsImage.{FitsWindow}
use Rattle.ss_standing.specs.Image.{window_bytes}
use Rattle.ss_snapshot.proofs.Pieces.{Spelled}
use Rattle.ss_snapshot.proofs.writing.windows.push_windows.Given as goal

abbrev pub invariant-loop-window : goal.invariant-loop-window
invariant-loop-window l = Spelled (λ (h : WindowValue). window_bytes (kept_part h)) (λ (h : WindowValue). FitsWindow (kept_part h)) l.fn.out.items l.out.items (take l.window-index l.windows)
