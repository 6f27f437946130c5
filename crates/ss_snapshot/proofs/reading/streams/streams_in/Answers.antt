use Rattle.std.proofs.Common.{◌≡◌, ◌∙◌, ◌+◌, List, [], ◌∷◌, ◌++◌, length, map, ap, arith, rules}
use Rattle.std.specs.List.{range_with_len}
use Rattle.std.proofs.lemmas.Result.{err_from_is_err_and}
use Rattle.ss_standing.specs.ImageForm.{stream_at}
use Rattle.ss_standing.specs.Readers.{each, with_front}
use Rattle.ss_snapshot.specs.declared.reading.streams.KeptStream.{KeptStream}
use Rattle.ss_snapshot.specs.Streams.{as_kept}
use Rattle.ss_snapshot.proofs.NumbersRead.{number_refused, numbers_begin, numbers_end, numbers_from, one_number}
use Rattle.ss_snapshot.proofs.reading.streams.streams_in.Goals as goal

pub loop-stream-init : goal.loop-stream-init
loop-stream-init c =
    let catalog = c.args.catalog.now in
    let read = stream_at catalog c.args.most in
    ap (λ (l : List KeptStream). with_front (map as_kept l) (each read (numbers_from (length catalog.streams) 0) c.args.bytes.now)) c.new-read.ensures
    ∙ numbers_begin read as_kept (length catalog.streams) c.args.bytes.now

pub loop-stream-preserved : goal.loop-stream-preserved
loop-stream-preserved c =
    let catalog = c.args.catalog.now in
    let read = stream_at catalog c.args.most in
    let s = c.loop-stream.stream in
    let behind = c.in_ok-kept.behind.now in
    let pushed : c.push.new.self ≡ c.loop-stream.read ++ c.in_ok-kept.kept ∷ [] = search rules in
    ap (λ (l : List KeptStream). with_front (map as_kept l) (each read (numbers_from (length catalog.streams) (s + 1)) behind)) pushed
    ∙ one_number read as_kept (length catalog.streams) c.loop-stream.read s c.loop-stream.rest.now
    (each read (range_with_len 0 (length catalog.streams)) c.args.bytes.now) c.loop-stream.invariant (omega arith) c.in_ok-kept.kept behind c.in_ok-kept.ensures

pub returns : goal.returns
returns c =
    let catalog = c.args.catalog.now in
    let read = stream_at catalog c.args.most in
    numbers_end read as_kept (length catalog.streams) c.loop-stream.read c.loop-stream.stream c.loop-stream.rest.now
    (each read (range_with_len 0 (length catalog.streams)) c.args.bytes.now) c.loop-stream.invariant (omega arith)

pub returns-in_err-kept : goal.returns-in_err-kept
returns-in_err-kept c =
    let p = err_from_is_err_and c.from_residual.result c.from_residual.ensures.1 in
    let catalog = c.args.catalog.now in
    let read = stream_at catalog c.args.most in
    rw (p.1, p.2)
    (number_refused read as_kept (length catalog.streams) c.loop-stream.read c.loop-stream.stream c.loop-stream.rest.now
    (each read (range_with_len 0 (length catalog.streams)) c.args.bytes.now) c.loop-stream.invariant (omega arith) c.in_err-kept.field-0.0 c.in_err-kept.ensures)
