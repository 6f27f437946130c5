use Rattle.ss_refusals.proofs.CallerLemmas.{InputLaws}
use Rattle.ss_audit_input.proofs.Ends.{refusal_tells, refused_comes, verdict_comes, verdict_tells}
use Rattle.ss_audit_input.proofs.command.audit_input.Goals as goal

pub returns-in-Ok-clause-comes : goal.returns-in-Ok-clause-comes
returns-in-Ok-clause-comes g c = verdict_comes _ _ c.in-Ok.verdict c.in-Ok.ensures.ok c.in-Ok.ensures.end c.tell_verdict.result c.tell_verdict.ensures.told

pub returns-in-Err-clause-comes : goal.returns-in-Err-clause-comes
returns-in-Err-clause-comes g c =
    let said = c.a_nested_value_has_one_answer.ensures in
    let asked = c.a_request_has_one_answer.ensures in
    let laws : InputLaws = record {
      asking = record { request = asked.request; either = asked.either; refusal = asked.refusal };
      reading = said.catalog;
      either = said.either;
      refusal = said.refusal;
    } in
    refused_comes _ _ laws c.in-Err.error c.in-Err.ensures.refused c.in-Err.ensures.leaves c.refuse.result c.refuse.ensures.refused

pub returns-in-Ok-clause-told : goal.returns-in-Ok-clause-told
returns-in-Ok-clause-told g c = verdict_tells _ _ c.in-Ok.verdict c.tell_verdict.result c.in-Ok.ensures.told c.tell_verdict.ensures.told

pub returns-in-Err-clause-told : goal.returns-in-Err-clause-told
returns-in-Err-clause-told g c = refusal_tells _ _ c.in-Err.error c.refuse.result c.refuse.ensures.read_fault c.in-Err.ensures.told c.refuse.ensures.refused
