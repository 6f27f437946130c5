use Rattle.std.proofs.Common.{◌≡◌, ◌∙◌, []}
use Rattle.std.specs.Prelude.{⊤}
use Rattle.ss_lemmas.proofs.Results.{if_ok}
use Rattle.ss_audit_laws.specs.Checks.{all_say, called_replies}
use Rattle.ss_audit.specs.declared.verdict.Verdict.{Verdict}
use Rattle.ss_audit.specs.Breaks.{IsNo, behind_parts, behind_replies, verdict_of}
use Rattle.ss_audit.specs.Lent.{lent_parts}
use Rattle.ss_audit.proofs.Verdicts.{told_behind, told_no}
use Rattle.ss_audit.proofs.checks.check_parts.Goals as goal

pub check_replies-requires : goal.check_replies-requires
check_replies-requires c = c.as_slice-asked.ensures.value ∙ c.in_ok-placed.ensures

pub check_entries-requires-clause-placed : goal.check_entries-requires-clause-placed
check_entries-requires-clause-placed c = c.as_slice-asked.ensures.value ∙ c.in_ok-placed.ensures

pub returns-in-Ok : goal.returns-in-Ok
returns-in-Ok c =
    let catalog = c.args.catalog.now in
    let requests = c.args.requests.now in
    let parts = lent_parts c.args.parts in
    if_ok (λ (v : Verdict). v ≡ verdict_of (behind_replies catalog requests parts c.args.end)) (λ (v : Verdict). v ≡ verdict_of (behind_parts catalog requests parts c.args.end))
    (λ v is. told_behind 2 (all_say c.args.end (called_replies parts.entries [] requests) parts.replies) (λ (x : ⊤). behind_replies catalog requests parts c.args.end) tt v c.in-Ok.ensures.ok is) c.check_entries.result c.check_entries.ensures

pub returns-in-Err : goal.returns-in-Err
returns-in-Err c =
    let catalog = c.args.catalog.now in
    let requests = c.args.requests.now in
    let parts = lent_parts c.args.parts in
    if_ok (IsNo 2 c.in-Err.broken) (λ (v : Verdict). v ≡ verdict_of (behind_parts catalog requests parts c.args.end))
    (λ v is. told_no 2 (all_say c.args.end (called_replies parts.entries [] requests) parts.replies) (λ (x : ⊤). behind_replies catalog requests parts c.args.end) c.in-Err.broken v c.in-Err.ensures.broken is) c.no.result c.no.ensures
