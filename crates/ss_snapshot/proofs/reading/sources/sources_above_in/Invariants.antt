use Rattle.ss_shard.specs.Sources.{positive}
use Rattle.ss_snapshot.proofs.SourcesRead.{AreBuilt}
use Rattle.ss_snapshot.proofs.reading.sources.sources_above_in.Given as goal

abbrev pub invariant-loop : goal.invariant-loop
invariant-loop l = AreBuilt l.count l.counter (positive l.sources) l.last l.bytes l.rest
