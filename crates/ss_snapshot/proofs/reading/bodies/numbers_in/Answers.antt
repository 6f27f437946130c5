use Rattle.std.proofs.Common.{◌≡◌, ◌<◌, ◌+◌, ◌++◌, ◌∷◌, [], List, ℕ, length, sym, subst, arith, rules}
use Rattle.std.proofs.lemmas.Result.{err_from_is_err_and}
use Rattle.ss_snapshot.proofs.BodiesRead.{AreNumbers, all_bodies, all_numbers_read, number_refused, one_number}
use Rattle.ss_snapshot.proofs.reading.bodies.numbers_in.Goals as goal

pub returns-in_err-number-clause-read : goal.returns-in_err-number-clause-read
returns-in_err-number-clause-read c =
    let p = err_from_is_err_and c.from_residual.result c.from_residual.ensures.1 in
    let catalog = c.args.catalog.now in
    let there : c.loop-procedure.procedure < length catalog.procedures = omega (arith, c.loop-procedure-test.true, c.in-Ok.ensures, c.len.ensures) in
    rw (p.1, p.2)
    (number_refused catalog c.loop-procedure.procedure c.loop-procedure.numbers c.args.bytes.now c.loop-procedure.rest.now c.loop-procedure.invariant there c.in_err-number.field-0.0
    c.in_err-number.ensures.read)

pub loop-procedure-preserved : goal.loop-procedure-preserved
loop-procedure-preserved c =
    let catalog = c.args.catalog.now in
    let i = c.loop-procedure.procedure in
    let there : i < length catalog.procedures = omega (arith, c.loop-procedure-test.true, c.in-Ok.ensures, c.len.ensures) in
    let pushed : c.push.new.self ≡ c.loop-procedure.numbers ++ c.in_ok-number.number ∷ [] = search rules in
    subst (λ (numbers : List ℕ). AreNumbers catalog (i + 1) numbers c.args.bytes.now c.in_ok-number.behind.now) (sym pushed)
    (one_number catalog i c.loop-procedure.numbers c.args.bytes.now c.loop-procedure.rest.now c.loop-procedure.invariant there c.in_ok-number.number c.in_ok-number.behind.now
    c.in_ok-number.ensures.read c.in_ok-number.ensures.number)

pub returns-clause-read : goal.returns-clause-read
returns-clause-read c =
    all_numbers_read c.args.catalog.now c.loop-procedure.procedure c.loop-procedure.numbers c.args.bytes.now c.loop-procedure.rest.now c.loop-procedure.invariant
    (omega (arith, c.loop-procedure-test.false, c.in-Ok.ensures, c.len.ensures))

pub returns-clause-numbers : goal.returns-clause-numbers
returns-clause-numbers c =
    all_bodies c.args.catalog.now c.loop-procedure.procedure c.loop-procedure.numbers c.args.bytes.now c.loop-procedure.rest.now c.loop-procedure.invariant
    (omega (arith, c.loop-procedure-test.false, c.in-Ok.ensures, c.len.ensures, c.loop-procedure.auto.procedure-end))
