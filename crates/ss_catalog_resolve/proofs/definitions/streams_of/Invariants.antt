use Rattle.std.proofs.Common.{◌≡◌, map, take}
use Rattle.ss_catalog_resolve.specs.Numbered.{stream_of}
use Rattle.ss_catalog_resolve.proofs.definitions.streams_of.Given as goal

abbrev pub invariant-loop-stream : goal.invariant-loop-stream
invariant-loop-stream l = l.defs ≡ map stream_of (take l.stream-index l.streams)
