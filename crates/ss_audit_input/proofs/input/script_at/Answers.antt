use Rattle.std.proofs.Common.{◌≡◌, ◌++◌, ◌∷◌, [], take, arith, rules}
use Rattle.std.proofs.lemmas.Result.{err_from_is_err_and}
use Rattle.ss_lines.specs.declared.line.LineError.TheVariants.{NoMemory}
use Rattle.ss_refusals.specs.declared.input.InputError.TheVariants.{Line as OfLine}
use Rattle.ss_refusals.proofs.CallerLemmas.{SoFar, each_fits, more_so_far, none_so_far, own_so_far, same_so_far}
use Rattle.ss_audit_input.proofs.Scripts.{asked_few, asked_few_whole, asked_refused, refused_at, script_before, script_whole}
use Rattle.ss_audit_input.proofs.input.script_at.Goals as goal

pub loop-line-init : goal.loop-line-init
loop-line-init c =
    let none : c.new-requests.result ≡ [] = search rules in
    rw none (none_so_far c.args.catalog.now c.requires.own)

pub asked_at-requires : goal.asked_at-requires
asked_at-requires c = record { own = own_so_far c.args.catalog.now c.loop-line.catalog _ c.loop-line.requests c.loop-line.invariant }

pub returns-in_err-asked-clause-refused : goal.returns-in_err-asked-clause-refused
returns-in_err-asked-clause-refused c =
    let p = err_from_is_err_and c.from_residual.result c.from_residual.ensures.1 in
    let so = c.loop-line.invariant in
    rw (p.1, p.2)
    (refused_at c.args.catalog.now c.args.lines.now c.loop-line.line-index c.loop-line.requests c.line-item.result _ c.loop-line-test.true c.line-item.is so.asked
    (asked_refused c.a_request_has_one_answer.ensures.refused_aside c.args.catalog.now c.loop-line.catalog so.grows.same c.line-item.result _ c.in_err-asked.ensures.refused))

pub returns-then-is_err-clause-refused : goal.returns-then-is_err-clause-refused
returns-then-is_err-clause-refused c =
    refused_at c.args.catalog.now c.args.lines.now c.loop-line.line-index c.loop-line.requests c.line-item.result (OfLine NoMemory) c.loop-line-test.true c.line-item.is c.loop-line.invariant.asked tt

pub returns-in_default-clause-few : goal.returns-in_default-clause-few
returns-in_default-clause-few c = asked_few c.args.catalog.now c.args.lines.now c.loop-line.line-index c.loop-line.requests (omega (arith, c.loop-line-test.true)) c.loop-line.invariant.asked

pub returns-in_default-clause-ok : goal.returns-in_default-clause-ok
returns-in_default-clause-ok c =
    script_before c.args.catalog.now c.args.lines.now c.loop-line.line-index c.loop-line.requests c.line-item.result c.loop-line-test.true c.line-item.is c.loop-line.invariant.asked (rw c.in_default.is at c.in_ok-asked.ensures.ok)

-- the catalogue stayed where the report began
so_far : (c : goal.In_default) → SoFar c.args.catalog.now c.asked_at.new.catalog (take c.loop-line.line-index c.args.lines.now) c.loop-line.requests
so_far c =
    let stays = rw c.in_default.is at c.in_ok-asked.ensures.stays in
    same_so_far c.args.catalog.now c.loop-line.catalog c.asked_at.new.catalog (take c.loop-line.line-index c.args.lines.now) c.loop-line.requests stays c.loop-line.invariant

pub returns-in_default-clause-fit : goal.returns-in_default-clause-fit
returns-in_default-clause-fit c = each_fits c.asked_at.new.catalog c.loop-line.requests (so_far c).fits

pub returns-in_default-clause-grows : goal.returns-in_default-clause-grows
returns-in_default-clause-grows c = (so_far c).grows

pub returns-in_default-clause-goes_on : goal.returns-in_default-clause-goes_on
returns-in_default-clause-goes_on c = (so_far c).goes_on

pub loop-line-preserved : goal.loop-line-preserved
loop-line-preserved c =
    let pushed : c.push.new.self ≡ c.loop-line.requests ++ c.in-Some.request ∷ [] = search rules in
    let asks = rw c.in-Some.is at c.in_ok-asked.ensures.ok in
    let fits = rw c.in-Some.is at c.in_ok-asked.ensures.fits in
    rw pushed
    (more_so_far c.a_request_has_one_answer.ensures.asked_aside c.args.catalog.now c.loop-line.catalog c.asked_at.new.catalog c.args.lines.now c.loop-line.line-index c.loop-line.requests
    c.line-item.result c.in-Some.request c.loop-line-test.true c.line-item.is c.loop-line.invariant asks c.in_ok-asked.ensures.grows c.in_ok-asked.ensures.goes_on fits)

pub returns-clause-few : goal.returns-clause-few
returns-clause-few c = asked_few_whole c.args.catalog.now c.args.lines.now c.loop-line.line-index c.loop-line.requests (omega (arith, c.loop-line-test.false)) c.loop-line.invariant.asked

pub returns-clause-ok : goal.returns-clause-ok
returns-clause-ok c = script_whole c.args.catalog.now c.args.lines.now c.loop-line.line-index c.loop-line.requests (omega (arith, c.loop-line-test.false)) c.loop-line.invariant.asked

pub returns-clause-fit : goal.returns-clause-fit
returns-clause-fit c = each_fits c.loop-line.catalog c.loop-line.requests c.loop-line.invariant.fits
