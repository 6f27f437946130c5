use Rattle.std.proofs.Common.{◌≡◌, ◌++◌}
use Rattle.ss_record.specs.Numbers.{number_bytes}
use Rattle.ss_standing.specs.Image.{repeated}
use Rattle.ss_snapshot.proofs.kept.push_counts.Given as goal

abbrev pub invariant-loop : goal.invariant-loop
invariant-loop l = l.out.items ≡ l.fn.out.items ++ repeated (number_bytes 8) l.counter 0
