use Rattle.std.proofs.Common.{◌≡◌, length, map}
use Rattle.std.specs.List.{range_with_len}
use Rattle.ss_standing.specs.ImageForm.{stream_at}
use Rattle.ss_standing.specs.Readers.{each, with_front}
use Rattle.ss_snapshot.specs.Streams.{as_kept}
use Rattle.ss_snapshot.proofs.NumbersRead.{numbers_from}
use Rattle.ss_snapshot.proofs.reading.streams.streams_in.Given as goal

abbrev pub invariant-loop-stream : goal.invariant-loop-stream
invariant-loop-stream l =
    with_front (map as_kept l.read) (each (stream_at l.catalog l.most) (numbers_from (length l.catalog.streams) l.stream) l.rest)
    ≡ each (stream_at l.catalog l.most) (range_with_len 0 (length l.catalog.streams)) l.bytes
