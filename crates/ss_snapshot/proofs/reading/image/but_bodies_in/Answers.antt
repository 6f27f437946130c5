use Rattle.std.proofs.lemmas.Result.{err_from_is_err_and}
use Rattle.ss_shard.specs.Contents.{tables_of}
use Rattle.ss_snapshot.specs.Beside.{as_beside}
use Rattle.ss_snapshot.proofs.BesideRead.{beside_with, tables_refused, windows_sound}
use Rattle.ss_snapshot.proofs.reading.image.but_bodies_in.Goals as goal

pub beside_in-requires : goal.beside_in-requires
beside_in-requires c = windows_sound c.args.catalog.now c.requires.accepted.form

pub returns-clause-read : goal.returns-clause-read
returns-clause-read c =
    beside_with c.args.catalog.now c.args.most c.args.bytes.now (tables_of c.tables_into.new.whole.tables) c.in_ok-rest.rest.now c.in_ok-rest.ensures.read
    (λ x. as_beside x.0) (λ x. x.1.now) c.beside_in.result c.beside_in.ensures.read

pub returns-in_err-rest-clause-read : goal.returns-in_err-rest-clause-read
returns-in_err-rest-clause-read c =
    let p = err_from_is_err_and c.from_residual.result c.from_residual.ensures.1 in
    rw (p.1, p.2) (tables_refused c.args.catalog.now c.args.most c.args.bytes.now c.in_err-rest.field-0.0 c.in_err-rest.ensures.read)
