use Rattle.std.proofs.Common.{◌∙◌, ◌++◌, All, subst, arith}
use Rattle.std.specs.List.{flat_map}
use Rattle.ss_record.specs.Bounds.{IsTypedRow}
use Rattle.ss_record.specs.Numbers.{number_bytes}
use Rattle.ss_record.specs.Spelling.{row_bytes}
use Rattle.ss_snapshot.proofs.Pieces.{two_pieces}
use Rattle.ss_snapshot.proofs.writing.rows.push_batch.Goals as goal

pub returns-clause-spelled : goal.returns-clause-spelled
returns-clause-spelled c =
    two_pieces c.args.out.now.items c.push_short_count.new.out.items c.push_rows.new.out.items (number_bytes 2 c.len.result) (flat_map row_bytes c.as_slice.result.now) c.in_ok-push_short_count.ensures.spelled c.in_ok-push_rows.ensures.spelled
    ∙ (λ k. c.args.out.now.items ++ (number_bytes 2 (c.len.ensures k) ++ flat_map row_bytes (c.as_slice.ensures k)))

pub returns-clause-fits : goal.returns-clause-fits
returns-clause-fits c = (omega (arith, c.in_ok-push_short_count.ensures.fits, c.len.ensures), subst (All IsTypedRow) c.as_slice.ensures c.in_ok-push_rows.ensures.typed)
