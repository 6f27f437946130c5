use Rattle.std.proofs.Common.{◌≡◌, ◌++◌, take}
use Rattle.ss_stream.proofs.stream.push_copies.Given as goal

abbrev pub invariant-loop-rows : goal.invariant-loop-rows
invariant-loop-rows l = l.copies ≡ l.initial.copies ++ take l.rows-index l.batches
