use Rattle.std.proofs.Common.{◌≡◌, ◌++◌}
use Rattle.std.specs.FinMap as finmap
use Rattle.ss_standing.specs.Image.{table_bytes, repeated}
use Rattle.ss_snapshot.proofs.kept.push_tables.Given as goal

abbrev pub invariant-loop : goal.invariant-loop
invariant-loop l = l.out.items ≡ l.fn.out.items ++ repeated table_bytes l.counter finmap.empty
