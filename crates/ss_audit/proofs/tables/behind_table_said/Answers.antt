use Rattle.std.proofs.Common.{◌≡◌, ◌∷◌, [], map, subst, arith}
use Rattle.std.proofs.lemmas.Result.{err_from_is_err_and}
use Rattle.std.specs.FinMap as finmap
use Rattle.serde_json.specs.Data.{Data}
use Rattle.serde_json.specs.View.{view}
use Rattle.ss_model.specs.ReportLines.{row_line, table_line}
use Rattle.ss_shard.specs.Contents.{rows_by_key}
use Rattle.ss_shard.proofs.CallerLemmas.{rows_counted}
use Rattle.ss_audit.specs.Saying.{LeavesBehind}
use Rattle.ss_audit.proofs.Saying.{both_behind, breaks_behind, breaks_first, breaks_same}
use Rattle.ss_audit.proofs.tables.behind_table_said.Goals as goal

pub returns-in_err-behind-clause-broken : goal.returns-in_err-behind-clause-broken
returns-in_err-behind-clause-broken c =
    let name = c.args.def.now.name in
    let table = rows_by_key c.args.table.now.live in
    let counted = rows_counted c.in_ok-rows.rows.items table c.in_ok-rows.ensures in
    let many : c.len.result ≡ finmap.len table = omega (arith, c.len.ensures, counted, c.in_ok-rows.rows.ok.0) in
    let head = rw (c.as_str-name.ensures, many) at c.in_ok-head.ensures in
    let p = err_from_is_err_and c.from_residual-in_err-behind.result c.from_residual-in_err-behind.ensures.1 in
    rw (p.1, p.2)
    (breaks_first c.args.end (table_line name (finmap.len table)) (map (row_line name) (finmap.values table)) c.args.lines.now _
    (breaks_same c.args.end (view c.in_ok-head.head) (table_line name (finmap.len table)) c.args.lines.now _ head c.in_err-behind.ensures.broken))

pub returns-in_err-rest-clause-broken : goal.returns-in_err-rest-clause-broken
returns-in_err-rest-clause-broken c =
    let name = c.args.def.now.name in
    let table = rows_by_key c.args.table.now.live in
    let counted = rows_counted c.in_ok-rows.rows.items table c.in_ok-rows.ensures in
    let many : c.len.result ≡ finmap.len table = omega (arith, c.len.ensures, counted, c.in_ok-rows.rows.ok.0) in
    let head = rw (c.as_str-name.ensures, many) at c.in_ok-head.ensures in
    let p = err_from_is_err_and c.from_residual-in_err-rest.result c.from_residual-in_err-rest.ensures.1 in
    rw (p.1, p.2)
    (breaks_behind c.args.end (table_line name (finmap.len table)) (map (row_line name) (finmap.values table)) c.args.lines.now c.in_ok-behind.behind.now _
    (subst (λ (d : Data). LeavesBehind c.args.end (d ∷ []) c.args.lines.now c.in_ok-behind.behind.now) head c.in_ok-behind.ensures.ok)
    (rw (c.as_str-name.ensures, c.as_slice.ensures.value, c.in_ok-rows.ensures) at c.in_err-rest.ensures.broken))

pub returns-clause-ok : goal.returns-clause-ok
returns-clause-ok c =
    let name = c.args.def.now.name in
    let table = rows_by_key c.args.table.now.live in
    let counted = rows_counted c.in_ok-rows.rows.items table c.in_ok-rows.ensures in
    let many : c.len.result ≡ finmap.len table = omega (arith, c.len.ensures, counted, c.in_ok-rows.rows.ok.0) in
    let head = rw (c.as_str-name.ensures, many) at c.in_ok-head.ensures in
    both_behind c.args.end (table_line name (finmap.len table)) (map (row_line name) (finmap.values table)) c.args.lines.now c.in_ok-behind.behind.now c.in_ok-rest.rest.now
    (subst (λ (d : Data). LeavesBehind c.args.end (d ∷ []) c.args.lines.now c.in_ok-behind.behind.now) head c.in_ok-behind.ensures.ok)
    (rw (c.as_str-name.ensures, c.as_slice.ensures.value, c.in_ok-rows.ensures) at c.in_ok-rest.ensures.ok)
