use Rattle.std.proofs.Common.{◌≡◌}
use Rattle.ss_lemmas.proofs.Results.{if_ok}
use Rattle.ss_replay.proofs.CallerLemmas.{opening_takes}
use Rattle.ss_audit_laws.specs.Shape.{Parts, shape}
use Rattle.ss_audit_laws.specs.Checks.{audited}
use Rattle.ss_audit.specs.declared.verdict.Verdict.{Verdict}
use Rattle.ss_audit.specs.Breaks.{IsNo, behind_parts, verdict_of}
use Rattle.ss_audit.specs.Lent.{lent_parts}
use Rattle.ss_audit.proofs.Verdicts.{told_behind, told_no}
use Rattle.ss_audit.proofs.checks.all_checks.Goals as goal

pub report_parts-requires : goal.report_parts-requires
report_parts-requires c = (opening_takes c.args.catalog.now c.requires c.in_ok-database.database 0 c.in_ok-database.ensures.stands).on

pub check_parts-requires-clause-committed : goal.check_parts-requires-clause-committed
check_parts-requires-clause-committed c = c.in_ok-database.ensures.is_whole.parts.committed

pub check_parts-requires-clause-opening : goal.check_parts-requires-clause-opening
check_parts-requires-clause-opening c = opening_takes c.args.catalog.now c.requires c.in_ok-database.database 0 c.in_ok-database.ensures.stands

pub returns-in-Ok : goal.returns-in-Ok
returns-in-Ok c =
    let catalog = c.args.catalog.now in
    let requests = c.args.requests.now in
    let report = c.args.report.now in
    let behind = λ (parts : Parts). behind_parts catalog requests parts c.args.end in
    if_ok (λ (v : Verdict). v ≡ verdict_of (behind (lent_parts c.in-Ok.parts))) (λ (v : Verdict). v ≡ verdict_of (audited catalog requests report c.args.end))
    (λ v is. told_behind 1 (shape catalog requests report c.args.end) behind (lent_parts c.in-Ok.parts) v c.in-Ok.ensures.ok is) c.check_parts.result c.check_parts.ensures

pub returns-in-Err : goal.returns-in-Err
returns-in-Err c =
    let catalog = c.args.catalog.now in
    let requests = c.args.requests.now in
    let report = c.args.report.now in
    let behind = λ (parts : Parts). behind_parts catalog requests parts c.args.end in
    if_ok (IsNo 1 c.in-Err.broken) (λ (v : Verdict). v ≡ verdict_of (audited catalog requests report c.args.end))
    (λ v is. told_no 1 (shape catalog requests report c.args.end) behind c.in-Err.broken v c.in-Err.ensures.broken is) c.no.result c.no.ensures
