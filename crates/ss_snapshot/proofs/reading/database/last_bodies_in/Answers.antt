use Rattle.std.proofs.Common.{◌∙◌, sym}
use Rattle.std.proofs.lemmas.Result.{err_from_is_err_and}
use Rattle.ss_shard.specs.Bodies.{texts_of}
use Rattle.ss_standing.specs.ImageForm.{bodies_of}
use Rattle.ss_snapshot.proofs.WholeRead.{ended, never_ended, not_ended}
use Rattle.ss_snapshot.proofs.reading.database.last_bodies_in.Goals as goal

pub returns-clause-read : goal.returns-clause-read
returns-clause-read c =
    ended (bodies_of c.args.bodies c.bodies_in.new.catalog) c.args.bytes.now (texts_of c.bodies_in.new.catalog c.in_ok-numbers.numbers) c.in_ok-numbers.rest.now
    c.in_ok-numbers.ensures.read (sym c.is_empty.ensures ∙ c.if-not-is_empty.false)

pub returns-then-not-is_empty-clause-read : goal.returns-then-not-is_empty-clause-read
returns-then-not-is_empty-clause-read c =
    not_ended (bodies_of c.args.bodies c.bodies_in.new.catalog) c.args.bytes.now (texts_of c.bodies_in.new.catalog c.in_ok-numbers.numbers) c.in_ok-numbers.rest.now
    c.in_ok-numbers.ensures.read (sym c.is_empty.ensures ∙ c.if-not-is_empty.true)

pub returns-in_err-numbers-clause-read : goal.returns-in_err-numbers-clause-read
returns-in_err-numbers-clause-read c =
    let p = err_from_is_err_and c.from_residual.result c.from_residual.ensures.1 in
    rw (p.1, p.2) (never_ended (bodies_of c.args.bodies c.bodies_in.new.catalog) c.args.bytes.now c.in_err-numbers.field-0.0 c.in_err-numbers.ensures.read)

pub returns-in_err-numbers-clause-furthest : goal.returns-in_err-numbers-clause-furthest
returns-in_err-numbers-clause-furthest c =
    let p = err_from_is_err_and c.from_residual.result c.from_residual.ensures.1 in
    rw (p.1, p.2) c.in_err-numbers.ensures.no_further
