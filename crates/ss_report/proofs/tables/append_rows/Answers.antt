use Rattle.std.proofs.Common.{Bor, ◌≡◌, List, [], map, drop, refl, ap, arith}
use Rattle.std.proofs.lemmas.List.{drop_all}
use Rattle.ss_value.specs.Rows.{Row}
use Rattle.ss_model.specs.ReportLines.{row_line}
use Rattle.ss_shard.specs.Lent.{rows_behind}
use Rattle.ss_report.proofs.Listing.{row_more}
use Rattle.ss_report.proofs.Steps.{begun, ended}
use Rattle.ss_report.proofs.tables.append_rows.Goals as goal

pub loop-row-init : goal.loop-row-init
loop-row-init c = let all = map (row_line c.args.name.now) (rows_behind c.args.rows.now) in begun c.args.out.now.items all all refl

pub loop-row-preserved : goal.loop-row-preserved
loop-row-preserved c =
    row_more c.args.name.now c.loop-row.row-index c.args.rows.now c.row-item.result c.args.out.now.items c.loop-row.out.items c.append_row.new.out.items (map (row_line c.args.name.now) (rows_behind c.args.rows.now))
    c.loop-row-test.true c.row-item.is c.in_ok-append_row.ensures c.loop-row.invariant

pub returns : goal.returns
returns c =
    let i = c.loop-row.row-index in
    let none : drop i c.args.rows.now ≡ [] = drop_all i c.args.rows.now (omega (arith, c.loop-row-test.false)) in
    ended c.args.out.now.items c.loop-row.out.items _ _ (ap (λ (rows : List (Bor Row)). map (row_line c.args.name.now) (rows_behind rows)) none) c.loop-row.invariant
