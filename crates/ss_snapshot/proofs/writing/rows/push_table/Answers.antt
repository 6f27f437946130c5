use Rattle.std.proofs.Common.{◌≡◌, ◌∙◌, ◌++◌, All, Bor, length, sym, ap, subst, arith}
use Rattle.std.specs.List.{flat_map}
use Rattle.std.specs.FinMap as finmap
use Rattle.std.proofs.lemmas.List.{length-map}
use Rattle.ss_value.specs.Rows.{Row, Rows}
use Rattle.ss_record.specs.Bounds.{IsTypedRow}
use Rattle.ss_record.specs.Numbers.{number_bytes}
use Rattle.ss_record.specs.Spelling.{row_bytes}
use Rattle.ss_shard.specs.Contents.{rows_by_key}
use Rattle.ss_shard.specs.Lent.{rows_behind}
use Rattle.ss_snapshot.proofs.Pieces.{two_pieces}
use Rattle.ss_snapshot.proofs.writing.rows.push_table.Goals as goal

pub returns-clause-spelled : goal.returns-clause-spelled
returns-clause-spelled c =
    let values : Rows = finmap.values (rows_by_key c.args.table.now.live) in
    let shown : rows_behind c.as_slice.result.now ≡ values = ap rows_behind c.as_slice.ensures.value ∙ c.in_ok-rows.ensures in
    let many : c.len.result ≡ length values = c.len.ensures ∙ c.in_ok-rows.rows.ok.0 ∙ sym (length-map c.in_ok-rows.rows.items (λ (r : Bor Row). r.now)) ∙ ap length c.in_ok-rows.ensures in
    two_pieces c.args.out.now.items c.push_long.new.out.items c.push_lent_rows.new.out.items (number_bytes 8 c.len.result) (flat_map row_bytes (rows_behind c.as_slice.result.now))
    c.in_ok-push_long.ensures.spelled c.in_ok-push_lent_rows.ensures.spelled
    ∙ (λ k. c.args.out.now.items ++ (number_bytes 8 (many k) ++ flat_map row_bytes (shown k)))

pub returns-clause-fits : goal.returns-clause-fits
returns-clause-fits c =
    let values : Rows = finmap.values (rows_by_key c.args.table.now.live) in
    let shown : rows_behind c.as_slice.result.now ≡ values = ap rows_behind c.as_slice.ensures.value ∙ c.in_ok-rows.ensures in
    let many : c.len.result ≡ length values = c.len.ensures ∙ c.in_ok-rows.rows.ok.0 ∙ sym (length-map c.in_ok-rows.rows.items (λ (r : Bor Row). r.now)) ∙ ap length c.in_ok-rows.ensures in
    (omega (arith, c.in_ok-push_long.ensures.fits, many), subst (All IsTypedRow) shown c.in_ok-push_lent_rows.ensures.typed)
