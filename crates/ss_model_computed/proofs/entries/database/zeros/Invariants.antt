use Rattle.std.proofs.Common.{◌≡◌, replicate}
use Rattle.ss_model_computed.proofs.entries.database.zeros.Given as goal

abbrev pub invariant-loop : goal.invariant-loop
invariant-loop l = l.counts ≡ replicate l.counter 0
