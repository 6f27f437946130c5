use Rattle.std.proofs.Common.{◌^◌, ◌-◌, take}
use Rattle.ss_stream.specs.Streams.{stream_at}
use Rattle.ss_standing.specs.FitsImage.{FitRows}
use Rattle.ss_standing.specs.Image.{counted_rows}
use Rattle.ss_snapshot.proofs.Pieces.{Spelled}
use Rattle.ss_snapshot.proofs.writing.streams.push_batches.Given as goal

abbrev pub invariant-loop-number : goal.invariant-loop-number
invariant-loop-number l = Spelled (counted_rows 2) (FitRows (2 ^ 16)) l.fn.out.items l.out.items (take (l.number - (stream_at l.streams l.stream).first) (stream_at l.streams l.stream).batches)
