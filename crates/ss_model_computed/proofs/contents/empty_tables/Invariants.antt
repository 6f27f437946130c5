use Rattle.std.proofs.Common.{◌≡◌, replicate}
use Rattle.std.specs.FinMap as finmap
use Rattle.ss_model_computed.proofs.contents.empty_tables.Given as goal

abbrev pub invariant-loop : goal.invariant-loop
invariant-loop l = l.tables ≡ replicate l.counter finmap.empty
