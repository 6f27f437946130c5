use Rattle.ss_snapshot.proofs.Puts.{ArePut}
use Rattle.ss_snapshot.proofs.reading.tables.put_rows.Given as goal

abbrev pub invariant-loop-row : goal.invariant-loop-row
invariant-loop-row l = ArePut l.fn.whole l.whole l.number l.fn.rows l.row-iterator.rest.items
