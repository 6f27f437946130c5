use Rattle.std.proofs.Common.{◌≡◌, ◌≤◌, ◌-◌, length, take}
use Rattle.std.specs.Io.KnownBytes.{Appends}
use Rattle.ss_lines.proofs.write.write_all.Given as goal

abbrev pub invariant-loop-at : goal.invariant-loop-at
invariant-loop-at g l = record {
  front : Appends (g.K.Sink.kind.written l.fn.sink) (g.K.Sink.kind.written l.sink) (take l.at l.bytes);
  within : l.at ≤ length l.bytes;
  still : g.K.Sink.kind.faults l.sink ≡ g.K.Sink.kind.faults l.fn.sink;
}

abbrev pub decreases-loop-at : goal.decreases-loop-at
decreases-loop-at g l = length l.bytes - l.at
