use Rattle.ss_refusals.proofs.OneInput.{InputLaws, one_start, starts_or_refused, one_refusal}
use Rattle.ss_refusals.proofs.laws.an_input_has_one_answer.Goals as goal

-- what the calls say
laws : goal.After-a_request_has_one_answer → InputLaws
laws c =
    let said = c.a_nested_value_has_one_answer.ensures in
    let asked = c.a_request_has_one_answer.ensures in
    record {
      asking = record { request = asked.request; either = asked.either; refusal = asked.refusal };
      reading = said.catalog;
      either = said.either;
      refusal = said.refusal;
    }

pub returns-clause-start : goal.returns-clause-start
returns-clause-start c = one_start (laws c)

pub returns-clause-either : goal.returns-clause-either
returns-clause-either c = starts_or_refused (laws c)

pub returns-clause-refusal : goal.returns-clause-refusal
returns-clause-refusal c = one_refusal (laws c)
