use Rattle.std.proofs.Common.{◌≡◌, ◌∙◌, ℕ, List, length, ap, sym}
use Rattle.ss_lemmas.proofs.Results.{if_ok}
use Rattle.ss_model.specs.declared.entry.Listed.{Listed}
use Rattle.ss_audit_laws.specs.Checks.{audited}
use Rattle.ss_audit_laws.specs.Valid.{bytes_of, IsValid}
use Rattle.ss_audit.specs.declared.verdict.Verdict.{Verdict}
use Rattle.ss_audit.specs.declared.verdict.Verdict.TheVariants.{Yes}
use Rattle.ss_audit.specs.Breaks.{verdict_of}
use Rattle.ss_audit.proofs.Verdicts.{yes_ok}
use Rattle.ss_audit.proofs.checks.audit.Goals as goal

pub returns-clause-right : goal.returns-clause-right
returns-clause-right c =
    let catalog = c.args.catalog.now in
    let requests = c.args.requests.now in
    let report = c.args.report.now in
    let told = audited catalog requests report c.args.end in
    if_ok (λ (v : Verdict). v ≡ verdict_of told) (λ (v : Verdict). (n : ℕ) → v ≡ Yes n → (list : List Listed) × IsValid catalog requests (bytes_of report) list × (length list ≡ n))
    (λ v is n yes. c.right_is_valid.ensures catalog c.requires requests report c.args.end n (yes_ok told n (sym is ∙ yes))) c.all_checks.result c.all_checks.ensures

pub returns-clause-valid : goal.returns-clause-valid
returns-clause-valid c = λ list one valid readable.
    let catalog = c.args.catalog.now in
    let requests = c.args.requests.now in
    let report = c.args.report.now in
    let told = audited catalog requests report c.args.end in
    if_ok (λ (v : Verdict). v ≡ verdict_of told) (λ (v : Verdict). v ≡ Yes (length list))
    (λ v is. is ∙ ap verdict_of (c.valid_is_right.ensures catalog c.requires requests report c.args.end list one valid readable)) c.all_checks.result c.all_checks.ensures
