use Rattle.std.proofs.Common.{◌≡◌, ◌≤◌, ◌+◌, map, take, length}
use Rattle.ss_stream.specs.Pending.{ReservedStream}
use Rattle.ss_stream.proofs.streams.Streams.duplicate.Given as goal

abbrev pub invariant-loop-stream : goal.invariant-loop-stream
invariant-loop-stream l = record {
  made : map (λ (s : ReservedStream). s.pending) l.copies.items ≡ map (λ (s : ReservedStream). s.pending) (take l.stream-index l.stream-items);
  room : length l.stream-items ≤ l.stream-index + l.copies.spare;
}
