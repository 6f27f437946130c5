use Rattle.std.proofs.Common.{Bor, arith}
use Rattle.ss_snapshot.proofs.Pieces.{spelled_none, spelled_more, spelled_all, spelled_as}
use Rattle.ss_record.specs.Spelling.{row_bytes}
use Rattle.ss_record.specs.Bounds.{IsTypedRow}
use Rattle.ss_value.specs.Rows.{Row}
use Rattle.ss_snapshot.proofs.writing.rows.push_lent_rows.Goals as goal

pub loop-row-init : goal.loop-row-init
loop-row-init c = spelled_none (λ (r : Bor Row). row_bytes r.now) (λ (r : Bor Row). IsTypedRow r.now) c.args.out.now.items

pub loop-row-preserved : goal.loop-row-preserved
loop-row-preserved c =
    spelled_more (λ (r : Bor Row). row_bytes r.now) (λ (r : Bor Row). IsTypedRow r.now) c.args.out.now.items c.args.rows.now c.loop-row.row-index c.row-item.result c.loop-row.out.items c.push_row.new.out.items c.loop-row-test.true c.row-item.is c.loop-row.invariant
    c.in_ok-push_row.ensures.spelled c.in_ok-push_row.ensures.typed

pub returns : goal.returns
returns c =
    let all = spelled_as (row_bytes) (IsTypedRow) (λ (r : Bor Row). r.now) c.args.out.now.items c.loop-row.out.items c.args.rows.now
    (spelled_all (λ (r : Bor Row). row_bytes r.now) (λ (r : Bor Row). IsTypedRow r.now) c.args.out.now.items c.args.rows.now c.loop-row.row-index c.loop-row.out.items (omega (arith, c.loop-row-test.false)) c.loop-row.invariant) in
    record { spelled = all.spelled; typed = all.fits }
