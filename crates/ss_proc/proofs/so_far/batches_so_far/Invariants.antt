use Rattle.std.proofs.Common.{◌≡◌, ◌++◌, [], get_or, map, take}
use Rattle.ss_proc.proofs.so_far.batches_so_far.Given as goal

abbrev pub invariant-loop-stream : goal.invariant-loop-stream
invariant-loop-stream l = l.seen ≡ l.batches ++ map (λ s. get_or l.emitted s []) (take l.stream-index l.inner)
