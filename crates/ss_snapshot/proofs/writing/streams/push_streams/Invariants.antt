use Rattle.std.proofs.Common.{take}
use Rattle.ss_stream.specs.Pending.{Pending}
use Rattle.ss_standing.specs.FitsImage.{FitsStream}
use Rattle.ss_standing.specs.Image.{stream_bytes}
use Rattle.ss_snapshot.specs.Held.{held_stream}
use Rattle.ss_snapshot.proofs.Pieces.{Spelled}
use Rattle.ss_snapshot.proofs.writing.streams.push_streams.Given as goal

abbrev pub invariant-loop-stream : goal.invariant-loop-stream
invariant-loop-stream l = Spelled (λ (p : Pending). stream_bytes (held_stream p)) (λ (p : Pending). FitsStream (held_stream p)) l.fn.out.items l.out.items (take l.stream l.streams.streams)
