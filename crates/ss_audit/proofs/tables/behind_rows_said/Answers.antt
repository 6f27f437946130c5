use Rattle.std.proofs.Common.{◌≡◌, ◌∙◌, ◌+◌, [], ◌∷◌, map, drop, ap, subst, refl, arith}
use Rattle.std.proofs.lemmas.List.{drop_all}
use Rattle.std.proofs.lemmas.Result.{err_from_is_err_and}
use Rattle.serde_json.specs.Data.{Data}
use Rattle.serde_json.specs.View.{view}
use Rattle.ss_lemmas.proofs.LoopItem.{next}
use Rattle.ss_model.specs.ReportLines.{row_line}
use Rattle.ss_shard.specs.Lent.{rows_behind}
use Rattle.ss_report.proofs.CallerLemmas.{row_no_float}
use Rattle.ss_audit.specs.Saying.{LeavesBehind}
use Rattle.ss_audit.proofs.Saying.{breaks_more, breaks_same, said_all, said_more}
use Rattle.ss_audit.proofs.tables.behind_rows_said.Goals as goal

pub behind_said-requires : goal.behind_said-requires
behind_said-requires c = rw c.in_ok-line.ensures (row_no_float c.args.name.now c.as_slice.result.now)

pub loop-row-init : goal.loop-row-init
loop-row-init c = λ more. refl

pub loop-row-preserved : goal.loop-row-preserved
loop-row-preserved c =
    let rows = c.args.rows.now in
    let name = c.args.name.now in
    let left = drop (c.loop-row.row-index + 1) rows in
    let here = next rows c.loop-row.row-index c.row-item.result c.loop-row-test.true c.row-item.is in
    said_more c.args.end (row_line name c.row-item.result.now ∷ []) (map (row_line name) (rows_behind left)) (map (row_line name) (rows_behind rows)) c.loop-row.rest.now c.in_ok-behind.behind.now c.args.lines.now
    (subst (λ (d : Data). LeavesBehind c.args.end (d ∷ []) c.loop-row.rest.now c.in_ok-behind.behind.now) (c.in_ok-line.ensures ∙ ap (row_line name) c.as_slice.ensures) c.in_ok-behind.ensures.ok)
    (rw here at c.loop-row.invariant)

pub returns-in_err-behind-clause-broken : goal.returns-in_err-behind-clause-broken
returns-in_err-behind-clause-broken c =
    let rows = c.args.rows.now in
    let name = c.args.name.now in
    let left = drop (c.loop-row.row-index + 1) rows in
    let here = next rows c.loop-row.row-index c.row-item.result c.loop-row-test.true c.row-item.is in
    let p = err_from_is_err_and c.from_residual-in_err-behind.result c.from_residual-in_err-behind.ensures.1 in
    rw (p.1, p.2)
    (breaks_more c.args.end (row_line name c.row-item.result.now ∷ []) (map (row_line name) (rows_behind left)) (map (row_line name) (rows_behind rows)) c.loop-row.rest.now c.args.lines.now _
    (breaks_same c.args.end (view c.in_ok-line.line) (row_line name c.row-item.result.now) c.loop-row.rest.now _ (c.in_ok-line.ensures ∙ ap (row_line name) c.as_slice.ensures) c.in_err-behind.ensures.broken)
    (rw here at c.loop-row.invariant))

pub returns-clause-ok : goal.returns-clause-ok
returns-clause-ok c =
    let none : drop c.loop-row.row-index c.args.rows.now ≡ [] = drop_all c.loop-row.row-index c.args.rows.now (omega (arith, c.loop-row-test.false)) in
    said_all c.args.end (map (row_line c.args.name.now) (rows_behind c.args.rows.now)) c.loop-row.rest.now c.args.lines.now (rw none at c.loop-row.invariant)
