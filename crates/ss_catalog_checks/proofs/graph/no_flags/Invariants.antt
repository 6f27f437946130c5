use Rattle.std.proofs.Common.{◌≡◌, replicate, false}
use Rattle.ss_catalog_checks.proofs.graph.no_flags.Given as goal

abbrev pub invariant-loop : goal.invariant-loop
invariant-loop l = l.flags ≡ replicate l.counter false
