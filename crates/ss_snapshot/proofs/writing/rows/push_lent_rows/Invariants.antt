use Rattle.std.proofs.Common.{take, Bor}
use Rattle.ss_value.specs.Rows.{Row}
use Rattle.ss_record.specs.Spelling.{row_bytes}
use Rattle.ss_record.specs.Bounds.{IsTypedRow}
use Rattle.ss_snapshot.proofs.Pieces.{Spelled}
use Rattle.ss_snapshot.proofs.writing.rows.push_lent_rows.Given as goal

abbrev pub invariant-loop-row : goal.invariant-loop-row
invariant-loop-row l = Spelled (λ (r : Bor Row). row_bytes r.now) (λ (r : Bor Row). IsTypedRow r.now) l.fn.out.items l.out.items (take l.row-index l.rows)
