use Rattle.std.proofs.Common.{◌-◌, nat_le}
use Rattle.std.proofs.lemmas.Result.{err_from_is_err_and}
use Rattle.ss_standing.specs.ImageForm.{number_where}
use Rattle.ss_standing.specs.Readers.{followed}
use Rattle.ss_snapshot.specs.ImageParts.{many_batches}
use Rattle.ss_snapshot.proofs.Readings.{followed_refused}
use Rattle.ss_snapshot.proofs.reading.streams.stream_in.Goals as goal

pub returns-in_err-batches : goal.returns-in_err-batches
returns-in_err-batches c =
    let schema = c.args.schema.now in
    let had = c.in_ok-had.had in
    let p = err_from_is_err_and c.from_residual-in_err-batches.result c.from_residual-in_err-batches.ensures.1 in
    rw (p.1, p.2)
    (followed_refused (number_where 8 (λ n. nat_le n c.args.most)) (λ had. followed (number_where 8 (λ n. nat_le n had)) (λ first. many_batches schema (had - first)))
    c.args.bytes.now had c.in_ok-had.rest.now c.in_ok-had.ensures.read c.in_err-batches.field-0.0
    (followed_refused (number_where 8 (λ n. nat_le n had)) (λ first. many_batches schema (had - first))
    c.in_ok-had.rest.now c.in_ok-first.first c.in_ok-first.rest.now c.in_ok-first.ensures.read c.in_err-batches.field-0.0 c.in_err-batches.ensures))
