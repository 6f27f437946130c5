use Rattle.std.proofs.Common.{◌≡◌, true, take}
use Rattle.ss_lines.specs.Lines.{is_one_line}
use Rattle.ss_lines.proofs.split.split_line.Given as goal

abbrev pub invariant-loop-at : goal.invariant-loop-at
invariant-loop-at l = is_one_line (take l.at l.bytes) ≡ true
