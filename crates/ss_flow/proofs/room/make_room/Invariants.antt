use Rattle.std.proofs.Common.{◌≡◌, take}
use Rattle.ss_flow.specs.Advances.{HasRoom}
use Rattle.ss_flow.proofs.room.make_room.Given as goal

abbrev pub invariant-loop-batch : goal.invariant-loop-batch
invariant-loop-batch l = record {
  same : l.streams.streams ≡ l.fn.streams.streams;
  room : HasRoom l.streams (take l.batch-index l.batches);
}
