use Rattle.ss_snapshot.proofs.AllTables.{AreFilling}
use Rattle.ss_snapshot.proofs.reading.tables.tables_into.Given as goal

abbrev pub invariant-loop-number : goal.invariant-loop-number
invariant-loop-number l = AreFilling l.catalog l.fn.whole l.whole l.number l.bytes l.rest
