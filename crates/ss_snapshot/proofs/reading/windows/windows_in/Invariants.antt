use Rattle.ss_snapshot.proofs.Eaches.{AreRead}
use Rattle.ss_snapshot.proofs.reading.windows.windows_in.Given as goal

abbrev pub invariant-loop-window : goal.invariant-loop-window
invariant-loop-window l = AreRead l.windows l.window-index l.restored l.bytes l.rest
