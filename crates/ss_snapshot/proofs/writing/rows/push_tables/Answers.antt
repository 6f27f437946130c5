use Rattle.std.proofs.Common.{arith}
use Rattle.ss_snapshot.proofs.Pieces.{spelled_none, spelled_more, spelled_all, spelled_as}
use Rattle.ss_table.specs.TableValue.{TableValue}
use Rattle.ss_shard.specs.Contents.{rows_by_key}
use Rattle.ss_standing.specs.FitsImage.{FitsTable}
use Rattle.ss_standing.specs.Image.{table_bytes}
use Rattle.ss_snapshot.proofs.writing.rows.push_tables.Goals as goal

pub loop-table-init : goal.loop-table-init
loop-table-init c = spelled_none (λ (t : TableValue). table_bytes (rows_by_key t.live)) (λ (t : TableValue). FitsTable (rows_by_key t.live)) c.args.out.now.items

pub loop-table-preserved : goal.loop-table-preserved
loop-table-preserved c =
    spelled_more (λ (t : TableValue). table_bytes (rows_by_key t.live)) (λ (t : TableValue). FitsTable (rows_by_key t.live)) c.args.out.now.items c.args.tables.now c.loop-table.table-index c.table-item.result c.loop-table.out.items c.push_table.new.out.items c.loop-table-test.true c.table-item.is c.loop-table.invariant
    c.in_ok-push_table.ensures.spelled c.in_ok-push_table.ensures.fits

pub returns : goal.returns
returns c =
    let all = spelled_as (table_bytes) (FitsTable) (λ (t : TableValue). rows_by_key t.live) c.args.out.now.items c.loop-table.out.items c.args.tables.now
    (spelled_all (λ (t : TableValue). table_bytes (rows_by_key t.live)) (λ (t : TableValue). FitsTable (rows_by_key t.live)) c.args.out.now.items c.args.tables.now c.loop-table.table-index c.loop-table.out.items (omega (arith, c.loop-table-test.false)) c.loop-table.invariant) in
    record { spelled = all.spelled; fits = all.fits }
