use Rattle.std.proofs.Common.{◌≡◌, ◌++◌, ◌∷◌, [], rules}
use Rattle.std.proofs.lemmas.Result.{err_from_is_err_and}
use Rattle.ss_lines.specs.declared.line.LineError.TheVariants.{NoMemory}
use Rattle.ss_refusals.specs.declared.input.InputError.TheVariants.{Line as OfLine}
use Rattle.ss_refusals.proofs.Growing.{more_so_far, none_so_far, own_so_far, refused_so_far}
use Rattle.ss_refusals.proofs.InputRequests.{each_fits}
use Rattle.ss_refusals.proofs.input.requests_at.Goals as goal

pub loop-line-init : goal.loop-line-init
loop-line-init c =
    let none : c.new-requests.result ≡ [] = search rules in
    rw none (none_so_far c.args.catalog.now c.requires.own)

pub request_at-requires : goal.request_at-requires
request_at-requires c = record { own = own_so_far c.args.catalog.now c.loop-line.catalog _ c.loop-line.requests c.loop-line.invariant }

pub returns-in_err-request-clause-refused : goal.returns-in_err-request-clause-refused
returns-in_err-request-clause-refused c =
    let p = err_from_is_err_and c.from_residual.result c.from_residual.ensures.1 in
    rw (p.1, p.2)
    (refused_so_far c.a_request_has_one_answer.ensures.refused_aside c.args.catalog.now c.loop-line.catalog c.args.lines.now c.loop-line.line-index c.loop-line.requests
    c.line-item.result _ c.loop-line-test.true c.line-item.is c.loop-line.invariant c.in_err-request.ensures.refused)

pub returns-then-is_err-clause-refused : goal.returns-then-is_err-clause-refused
returns-then-is_err-clause-refused c =
    refused_so_far c.a_request_has_one_answer.ensures.refused_aside c.args.catalog.now c.loop-line.catalog c.args.lines.now c.loop-line.line-index c.loop-line.requests
    c.line-item.result (OfLine NoMemory) c.loop-line-test.true c.line-item.is c.loop-line.invariant tt

pub loop-line-preserved : goal.loop-line-preserved
loop-line-preserved c =
    let pushed : c.push.new.self ≡ c.loop-line.requests ++ c.in_ok-request.request ∷ [] = search rules in
    let asks = c.in_ok-request.ensures in
    rw pushed
    (more_so_far c.a_request_has_one_answer.ensures.asked_aside c.args.catalog.now c.loop-line.catalog c.request_at.new.catalog c.args.lines.now c.loop-line.line-index c.loop-line.requests
    c.line-item.result c.in_ok-request.request c.loop-line-test.true c.line-item.is c.loop-line.invariant asks.ok asks.grows asks.goes_on asks.fits)

pub returns-clause-fit : goal.returns-clause-fit
returns-clause-fit c = each_fits c.loop-line.catalog c.loop-line.requests c.loop-line.invariant.fits
