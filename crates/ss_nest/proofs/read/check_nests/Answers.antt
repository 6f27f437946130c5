use Rattle.std.proofs.lemmas.Result.{err_from_is_err_and}
use Rattle.ss_nest.proofs.read.check_nests.Goals as goal

pub returns-in_err-check_twice-clause-refused : goal.returns-in_err-check_twice-clause-refused
returns-in_err-check_twice-clause-refused c = λ d known.
    let told = err_from_is_err_and c.from_residual.result c.from_residual.ensures.1 in
    rw (told.1, told.2) (c.in_err-check_twice.ensures.refused d known)

pub returns-in_err-check_closed-clause-refused : goal.returns-in_err-check_closed-clause-refused
returns-in_err-check_closed-clause-refused c = λ d known.
    let told = err_from_is_err_and c.from_residual-in_err-check_closed.result c.from_residual-in_err-check_closed.ensures.1 in
    rw (told.1, told.2) (c.in_err-check_closed.ensures.refused d (known, c.in_ok-check_twice.ensures.ok))

pub returns-in_err-check_touch-clause-refused : goal.returns-in_err-check_touch-clause-refused
returns-in_err-check_touch-clause-refused c = λ d known.
    let told = err_from_is_err_and c.from_residual-in_err-check_touch.result c.from_residual-in_err-check_touch.ensures.1 in
    rw (told.1, told.2) (c.in_err-check_touch.ensures.refused d ((known, c.in_ok-check_twice.ensures.ok), c.in_ok-check_closed.ensures.ok))

pub returns-clause-refused : goal.returns-clause-refused
returns-clause-refused c = λ d known. c.check_windows.ensures.refused d (((known, c.in_ok-check_twice.ensures.ok), c.in_ok-check_closed.ensures.ok), c.in_ok-check_touch.ensures.ok)
