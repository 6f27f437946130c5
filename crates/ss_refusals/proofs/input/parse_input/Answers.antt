use Rattle.std.proofs.lemmas.Result.{err_from_is_err_and}
use Rattle.ss_refusals.proofs.Growing.{bare_on, bare_own, refused_behind, started}
use Rattle.ss_refusals.proofs.input.parse_input.Goals as goal

pub returns-clause-ok : goal.returns-clause-ok
returns-clause-ok c =
    started c.args.lines.now c.in-Some.rest.now c.in-Some.first.now c.in_ok-catalog.catalog c.requests_at.new.catalog c.in_ok-requests.requests c.in-Some.ensures.cases.0
    c.in_ok-catalog.ensures.ok c.in_ok-requests.ensures.grows c.in_ok-requests.ensures.ok

pub returns-clause-bare : goal.returns-clause-bare
returns-clause-bare c =
    bare_own c.in-Some.first.now c.in_ok-catalog.catalog c.requests_at.new.catalog c.in_ok-catalog.ensures.ok c.in_ok-requests.ensures.grows c.in_ok-catalog.ensures.own

pub returns-clause-goes_on : goal.returns-clause-goes_on
returns-clause-goes_on c =
    bare_on c.in-Some.first.now c.in_ok-catalog.catalog c.requests_at.new.catalog c.in_ok-catalog.ensures.ok c.in_ok-requests.ensures.grows c.in_ok-requests.ensures.goes_on

pub returns-in_err-requests-clause-refused : goal.returns-in_err-requests-clause-refused
returns-in_err-requests-clause-refused c =
    let p = err_from_is_err_and c.from_residual-in_err-requests.result c.from_residual-in_err-requests.ensures.1 in
    rw (p.1, p.2)
    (refused_behind c.args.lines.now c.in-Some.rest.now c.in-Some.first.now c.in_ok-catalog.catalog _ c.in-Some.ensures.cases.0 c.in_ok-catalog.ensures.ok
    c.in_err-requests.ensures.refused)
