use Rattle.std.proofs.Common.{◌≡◌, length, map}
use Rattle.std.specs.List.{range_with_len}
use Rattle.ss_shard.specs.Sources.{positive}
use Rattle.ss_standing.specs.ImageForm.{sources_at}
use Rattle.ss_standing.specs.Readers.{each, with_front}
use Rattle.ss_snapshot.proofs.NumbersRead.{numbers_from}
use Rattle.ss_snapshot.proofs.reading.sources.sources_in.Given as goal

abbrev pub invariant-loop-stream : goal.invariant-loop-stream
invariant-loop-stream l =
    with_front (map positive l.read) (each (sources_at l.catalog) (numbers_from (length l.catalog.streams) l.stream) l.rest)
    ≡ each (sources_at l.catalog) (range_with_len 0 (length l.catalog.streams)) l.bytes
