use Rattle.std.proofs.Common.{◌≡◌, replicate}
use Rattle.ss_snapshot.proofs.reading.bodies.own_numbers.Given as goal

abbrev pub invariant-loop : goal.invariant-loop
invariant-loop l = l.numbers ≡ replicate l.counter 0
