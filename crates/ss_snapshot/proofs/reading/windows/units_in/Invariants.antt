use Rattle.std.proofs.Common.{◌≡◌, ◌-◌, length}
use Rattle.ss_standing.specs.Readers.{with_front}
use Rattle.ss_snapshot.specs.ImageParts.{many_units}
use Rattle.ss_snapshot.proofs.reading.windows.units_in.Given as goal

abbrev pub invariant-loop : goal.invariant-loop
invariant-loop l = record {
  read : with_front l.units (many_units l.window.unit l.window.schema (l.count - l.counter) l.rest) ≡ many_units l.window.unit l.window.schema l.count l.bytes;
  many : length l.units ≡ l.counter;
}
