use Rattle.std.proofs.Common.{◌∙◌, ℕ, List, drop, sym, ap, subst}
use Rattle.std.proofs.lemmas.Result.{err_from_is_err_and}
use Rattle.ss_lines.specs.declared.line.Line.{Line}
use Rattle.ss_model.specs.declared.catalog.Catalog.{Catalog}
use Rattle.ss_refusals.proofs.CallerLemmas.{bodies_for}
use Rattle.ss_audit_input.specs.Audits.{AreScript, number_behind}
use Rattle.ss_audit_input.specs.Told.{IsVerdictOf}
use Rattle.ss_audit_input.proofs.Reports.{is_verdict, refused_report, refused_script}
use Rattle.ss_audit_input.proofs.input.audit_lines.Goals as goal

pub verdict_of-requires : goal.verdict_of-requires
verdict_of-requires c = c.in_ok-requests.ensures.grows.accepted

pub returns-in_err-requests-clause-refused : goal.returns-in_err-requests-clause-refused
returns-in_err-requests-clause-refused c =
    let p = err_from_is_err_and c.from_residual-in_err-requests.result c.from_residual-in_err-requests.ensures.1 in
    rw (p.1, p.2) (refused_script c.args.lines.now c.in-Some.rest.now c.in-Some.first.now c.in-Some.ensures.cases.0 c.in_ok-catalog.catalog c.in_ok-catalog.ensures.ok _ c.in_err-requests.ensures.refused)

pub returns-in_err-values_at-clause-refused : goal.returns-in_err-values_at-clause-refused
returns-in_err-values_at-clause-refused c =
    let rest = c.in-Some.rest.now in
    let back = c.split_at.ensures.back ∙ ap (λ (n : ℕ). drop n rest) c.len.ensures in
    let script = subst (λ (ls : List Line). AreScript c.in_ok-catalog.catalog rest c.in_ok-requests.requests ls) (sym back) c.in_ok-requests.ensures.ok in
    let p = err_from_is_err_and c.from_residual-in_err-values_at.result c.from_residual-in_err-values_at.ensures.1 in
    rw (p.1, p.2)
    (refused_report c.args.lines.now rest c.in-Some.first.now c.in-Some.ensures.cases.0 c.in_ok-catalog.catalog c.in_ok-catalog.ensures.ok c.in_ok-requests.requests c.split_at.result.1.now script _ c.in_err-values_at.ensures.refused)

pub returns-in-Ok-clause-ok : goal.returns-in-Ok-clause-ok
returns-in-Ok-clause-ok c =
    let rest = c.in-Some.rest.now in
    let back = c.split_at.ensures.back ∙ ap (λ (n : ℕ). drop n rest) c.len.ensures in
    let script = subst (λ (ls : List Line). AreScript c.in_ok-catalog.catalog rest c.in_ok-requests.requests ls) (sym back) c.in_ok-requests.ensures.ok in
    let said = rw c.as_slice.ensures at c.in-Ok.ensures in
    let first = c.in_ok-catalog.catalog in
    let now = c.script_at.new.catalog in
    let rs = c.in_ok-requests.requests in
    let went = c.in_ok-requests.ensures in
    let bodies = bodies_for first now rs went.grows went.goes_on went.fit in
    let told = subst (λ (k : Catalog). IsVerdictOf k rs c.split_at.result.1.now (number_behind c.args.lines.now) c.in-Ok.verdict) went.grows.same said in
    is_verdict c.args.lines.now rest c.in-Some.first.now c.in-Some.ensures.cases.0 c.in_ok-catalog.catalog c.in_ok-catalog.ensures.ok c.in_ok-requests.requests c.split_at.result.1.now script
    c.in_ok-values_at.ensures.ok c.in_ok-catalog.ensures.own.0 bodies c.in-Ok.verdict told
