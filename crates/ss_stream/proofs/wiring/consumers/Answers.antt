use Rattle.std.proofs.Common.{arith}
use Rattle.std.proofs.lemmas.Grind.{common_steps}
use Rattle.std.proofs.lemmas.List.FromFn.{map-range_with_len_more}
use Rattle.ss_stream.specs.OfDatabase.{consumers_of}
use Rattle.ss_stream.proofs.wiring.consumers.Goals as goal

pub loop-stream-preserved : goal.loop-stream-preserved
loop-stream-preserved c =
    let n = c.loop-stream.stream in
    let more = map-range_with_len_more (consumers_of c.args.catalog.now) 0 n n (omega arith) in
    grind (arith, common_steps)
