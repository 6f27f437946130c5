-- What holds of every window.
use Rattle.std.specs.Prelude.{◌≡◌, ◌<◌, ◌^◌, false, length}
use Rattle.ss_value.specs.Rows.{Rows}
use Rattle.ss_window.specs.WindowValue.{WindowValue, unit_count, stage, commit, shown_rows, moves_end, WindowInvariant}

-- a committed window has had as many units as before, shows the same rows, and is as it is when committed again
pub record StaysCommitted (h : WindowValue) : Type 0 where
  pub held : WindowInvariant (commit h)
  pub counts : unit_count (commit h) ≡ unit_count h
  pub shows : shown_rows (commit h) ≡ shown_rows h
  pub again : commit (commit h) ≡ commit h

-- a commit of any window changes nothing that is seen of it, and a second one nothing at all
abbrev pub CommitsForGood : Type 0
CommitsForGood = (h : WindowValue) → WindowInvariant h → StaysCommitted h

-- where a staged unit doesn't move the end of what is visible, the same rows are shown as before
abbrev pub ShowsWhenItMoves : Type 0
ShowsWhenItMoves = (h : WindowValue) (unit : Rows) → WindowInvariant h → moves_end h ≡ false → shown_rows (stage h unit) ≡ shown_rows h

-- the rows that are shown have numbers of 64 bits
abbrev pub ShowsFew : Type 0
ShowsFew = (h : WindowValue) → WindowInvariant h → length (shown_rows h) < 2 ^ 64
