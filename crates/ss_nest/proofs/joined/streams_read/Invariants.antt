use Rattle.std.proofs.Common.{◌≡◌, ◌++◌, take}
use Rattle.ss_nest.proofs.joined.streams_read.Given as goal

abbrev pub invariant-loop-stream : goal.invariant-loop-stream
invariant-loop-stream l = l.reads ≡ l.inputs ++ take l.stream-index l.inner
