use Rattle.std.proofs.Common.{take}
use Rattle.ss_table.specs.TableValue.{TableValue}
use Rattle.ss_shard.specs.Contents.{rows_by_key}
use Rattle.ss_standing.specs.FitsImage.{FitsTable}
use Rattle.ss_standing.specs.Image.{table_bytes}
use Rattle.ss_snapshot.proofs.Pieces.{Spelled}
use Rattle.ss_snapshot.proofs.writing.rows.push_tables.Given as goal

abbrev pub invariant-loop-table : goal.invariant-loop-table
invariant-loop-table l = Spelled (λ (t : TableValue). table_bytes (rows_by_key t.live)) (λ (t : TableValue). FitsTable (rows_by_key t.live)) l.fn.out.items l.out.items (take l.table-index l.tables)
