use Rattle.std.proofs.Common.{◌≡◌, ◌∙◌, ◌+◌, List, [], ◌∷◌, ◌++◌, length, map, ap, arith, rules}
use Rattle.std.specs.List.{range_with_len}
use Rattle.std.proofs.lemmas.Result.{err_from_is_err_and}
use Rattle.ss_model.specs.Database.{NextNumbers}
use Rattle.ss_shard.specs.Sources.{positive}
use Rattle.ss_standing.specs.ImageForm.{sources_at}
use Rattle.ss_standing.specs.Readers.{each, with_front}
use Rattle.ss_snapshot.proofs.NumbersRead.{number_refused, numbers_begin, numbers_end, numbers_from, one_number}
use Rattle.ss_snapshot.proofs.reading.sources.sources_in.Goals as goal

pub loop-stream-init : goal.loop-stream-init
loop-stream-init c =
    let catalog = c.args.catalog.now in
    ap (λ (l : List NextNumbers). with_front (map positive l) (each (sources_at catalog) (numbers_from (length catalog.streams) 0) c.args.bytes.now)) c.new-read.ensures
    ∙ numbers_begin (sources_at catalog) positive (length catalog.streams) c.args.bytes.now

pub loop-stream-preserved : goal.loop-stream-preserved
loop-stream-preserved c =
    let catalog = c.args.catalog.now in
    let s = c.loop-stream.stream in
    let behind = c.in_ok-sources.behind.now in
    let pushed : c.push.new.self ≡ c.loop-stream.read ++ c.in_ok-sources.sources ∷ [] = search rules in
    ap (λ (l : List NextNumbers). with_front (map positive l) (each (sources_at catalog) (numbers_from (length catalog.streams) (s + 1)) behind)) pushed
    ∙ one_number (sources_at catalog) positive (length catalog.streams) c.loop-stream.read s c.loop-stream.rest.now
    (each (sources_at catalog) (range_with_len 0 (length catalog.streams)) c.args.bytes.now) c.loop-stream.invariant (omega arith) c.in_ok-sources.sources behind c.in_ok-sources.ensures

pub returns : goal.returns
returns c =
    let catalog = c.args.catalog.now in
    numbers_end (sources_at catalog) positive (length catalog.streams) c.loop-stream.read c.loop-stream.stream c.loop-stream.rest.now
    (each (sources_at catalog) (range_with_len 0 (length catalog.streams)) c.args.bytes.now) c.loop-stream.invariant (omega arith)

pub returns-in_err-sources : goal.returns-in_err-sources
returns-in_err-sources c =
    let p = err_from_is_err_and c.from_residual.result c.from_residual.ensures.1 in
    let catalog = c.args.catalog.now in
    rw (p.1, p.2)
    (number_refused (sources_at catalog) positive (length catalog.streams) c.loop-stream.read c.loop-stream.stream c.loop-stream.rest.now
    (each (sources_at catalog) (range_with_len 0 (length catalog.streams)) c.args.bytes.now) c.loop-stream.invariant (omega arith) c.in_err-sources.field-0.0 c.in_err-sources.ensures)
