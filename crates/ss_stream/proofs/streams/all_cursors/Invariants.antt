use Rattle.std.proofs.Common.{◌≡◌, map, take}
use Rattle.ss_stream.specs.Streams.{cursors_at}
use Rattle.ss_stream.proofs.streams.all_cursors.Given as goal

abbrev pub invariant-loop-consumers : goal.invariant-loop-consumers
invariant-loop-consumers l = l.lists ≡ map (cursors_at l.counts) (take l.consumers-index l.fn.consumers)
