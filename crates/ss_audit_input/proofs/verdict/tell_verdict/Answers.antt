use Rattle.std.proofs.Common.{◌∙◌}
use Rattle.ss_audit_input.proofs.Ends.{told_part, told_with}
use Rattle.ss_audit_input.proofs.verdict.tell_verdict.Goals as goal

pub returns-in-Ok-write_all-clause-told : goal.returns-in-Ok-write_all-clause-told
returns-in-Ok-write_all-clause-told g c =
    let text = c.as_bytes.ensures.value ∙ c.in-Ok.ensures in
    told_with c.args.verdict _ _ c.as_bytes.result.now c.verdict_status.ensures text c.in-Ok-write_all.ensures.cause.done c.in-Ok-write_all.ensures.ok

pub returns-clause-told : goal.returns-clause-told
returns-clause-told g c =
    let text = c.as_bytes.ensures.value ∙ c.in-Ok.ensures in
    told_part c.args.verdict _ c.as_bytes.result.now text c.write_all.ensures.part c.in-Err.ensures.cause.failed
