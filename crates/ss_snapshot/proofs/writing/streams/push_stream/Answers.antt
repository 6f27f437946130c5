use Rattle.std.proofs.Common.{◌∙◌, ◌++◌, arith}
use Rattle.std.specs.List.{flat_map}
use Rattle.ss_record.specs.Numbers.{number_bytes}
use Rattle.ss_stream.specs.Streams.{stream_at}
use Rattle.ss_standing.specs.Image.{counted_rows}
use Rattle.ss_snapshot.proofs.Pieces.{three_pieces}
use Rattle.ss_snapshot.proofs.writing.streams.push_stream.Goals as goal

pub returns-clause-spelled : goal.returns-clause-spelled
returns-clause-spelled c =
    let p = stream_at c.args.streams.now c.args.stream in
    three_pieces c.args.out.now.items c.push_long.new.out.items c.push_long-2.new.out.items c.push_batches.new.out.items (number_bytes 8 c.emitted_count.result) (number_bytes 8 c.first_kept.result)
    (flat_map (counted_rows 2) p.batches) c.in_ok-push_long.ensures.spelled c.in_ok-push_long-2.ensures.spelled c.in_ok-push_batches.ensures.spelled
    ∙ (λ k. c.args.out.now.items ++ (number_bytes 8 (c.emitted_count.ensures k) ++ number_bytes 8 (c.first_kept.ensures k) ++ flat_map (counted_rows 2) p.batches))

pub returns-clause-fits : goal.returns-clause-fits
returns-clause-fits c = (
  omega (arith, c.in_ok-push_long.ensures.fits, c.emitted_count.ensures),
  omega (arith, c.in_ok-push_long-2.ensures.fits, c.first_kept.ensures),
  c.in_ok-push_batches.ensures.fits,
)
