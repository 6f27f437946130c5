use Rattle.std.proofs.Common.{◌≡◌}
use Rattle.ss_standing.specs.ImageForm.{least_of}
use Rattle.ss_snapshot.proofs.LeastCounts.{least_behind}
use Rattle.ss_snapshot.proofs.reading.counts.least_of.Given as goal

abbrev pub invariant-loop-procedure : goal.invariant-loop-procedure
invariant-loop-procedure l = least_of l.catalog l.stream l.had l.counts ≡ least_behind l.catalog l.stream l.counts l.procedure l.least
