use Rattle.ss_catalog_requests.proofs.OneRequest.{asked_or_refused, one_request_refusal, asks_without, refuses_without}
use Rattle.ss_catalog_requests.proofs.laws.a_request_has_one_answer.Goals as goal

pub returns-clause-either : goal.returns-clause-either
returns-clause-either c = let bodies = c.a_nested_body_has_one_answer.ensures in asked_or_refused bodies.body bodies.either bodies.refusal

pub returns-clause-refusal : goal.returns-clause-refusal
returns-clause-refusal c = let bodies = c.a_nested_body_has_one_answer.ensures in one_request_refusal bodies.body bodies.either bodies.refusal

pub returns-clause-asked_aside : goal.returns-clause-asked_aside
returns-clause-asked_aside c = asks_without

pub returns-clause-refused_aside : goal.returns-clause-refused_aside
returns-clause-refused_aside c = refuses_without
