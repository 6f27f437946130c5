use Rattle.ss_nest.proofs.BodiesStand.{bodies_stand}
use Rattle.ss_nest.proofs.OneBody.{one_nested_body, nested_body_or_refused, one_nested_body_refusal}
use Rattle.ss_nest.proofs.laws.a_nested_body_has_one_answer.Goals as goal

pub returns-clause-body : goal.returns-clause-body
returns-clause-body c = one_nested_body c.a_value_has_one_answer.ensures.catalog c.a_body_has_one_answer.ensures.body

pub returns-clause-either : goal.returns-clause-either
returns-clause-either c = nested_body_or_refused c.a_value_has_one_answer.ensures.catalog c.a_body_has_one_answer.ensures.either

pub returns-clause-refusal : goal.returns-clause-refusal
returns-clause-refusal c = one_nested_body_refusal c.a_value_has_one_answer.ensures.catalog c.a_body_has_one_answer.ensures.refusal

pub returns-clause-stands : goal.returns-clause-stands
returns-clause-stands c = bodies_stand c.what_reads_is_accepted.ensures c.a_body_has_one_answer.ensures.stands c.nested_is_accepted.ensures c.accepted_in_place.ensures
