use Rattle.ss_catalog.proofs.Texts.{SqlLaws}
use Rattle.ss_catalog.proofs.OneBody.{one_body, body_or_refused, one_body_refusal, may_stand}
use Rattle.ss_catalog.proofs.laws.a_body_has_one_answer.Goals as goal

-- what the calls say
laws : goal.After-accepted_in_place → SqlLaws
laws c =
    let texts = c.a_text_has_one_answer.ensures in
    record {
      statements = record { one_tree = texts.statement; either = texts.statement_or_refusal; refused_once = λ text e f h k some other. texts.statement_refusal text e f some other h k };
      queries = record { one_tree = texts.query; either = texts.query_or_refusal; refused_once = λ text e f h k some other. texts.query_refusal text e f some other h k };
      conditions = record { one_tree = texts.condition; either = texts.condition_or_refusal; refused_once = λ text e f h k some other. texts.condition_refusal text e f some other h k };
      typing = c.a_tree_has_one_answer.ensures.either;
      least = c.a_tree_has_one_answer.ensures.refusal;
    }

pub returns-clause-body : goal.returns-clause-body
returns-clause-body c = one_body (laws c)

pub returns-clause-either : goal.returns-clause-either
returns-clause-either c = body_or_refused (laws c)

pub returns-clause-refusal : goal.returns-clause-refusal
returns-clause-refusal c = one_body_refusal (laws c)

pub returns-clause-stands : goal.returns-clause-stands
returns-clause-stands c = may_stand (laws c) c.what_reads_is_accepted.ensures c.accepted_in_place.ensures
