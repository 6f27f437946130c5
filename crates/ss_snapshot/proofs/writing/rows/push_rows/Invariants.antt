use Rattle.std.proofs.Common.{take}
use Rattle.ss_record.specs.Spelling.{row_bytes}
use Rattle.ss_record.specs.Bounds.{IsTypedRow}
use Rattle.ss_snapshot.proofs.Pieces.{Spelled}
use Rattle.ss_snapshot.proofs.writing.rows.push_rows.Given as goal

abbrev pub invariant-loop-row : goal.invariant-loop-row
invariant-loop-row l = Spelled row_bytes IsTypedRow l.fn.out.items l.out.items (take l.row-index l.rows)
