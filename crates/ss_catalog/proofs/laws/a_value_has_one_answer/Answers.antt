use Rattle.ss_catalog.proofs.Texts.{SqlLaws}
use Rattle.ss_catalog.proofs.Refused.{one_catalog, read_or_refused, one_refusal}
use Rattle.ss_catalog.proofs.laws.a_value_has_one_answer.Goals as goal

-- what the calls say
laws : goal.After-a_tree_has_one_answer → SqlLaws
laws c =
    let texts = c.a_text_has_one_answer.ensures in
    record {
      statements = record { one_tree = texts.statement; either = texts.statement_or_refusal; refused_once = λ text e f h k some other. texts.statement_refusal text e f some other h k };
      queries = record { one_tree = texts.query; either = texts.query_or_refusal; refused_once = λ text e f h k some other. texts.query_refusal text e f some other h k };
      conditions = record { one_tree = texts.condition; either = texts.condition_or_refusal; refused_once = λ text e f h k some other. texts.condition_refusal text e f some other h k };
      typing = c.a_tree_has_one_answer.ensures.either;
      least = c.a_tree_has_one_answer.ensures.refusal;
    }

pub returns-clause-catalog : goal.returns-clause-catalog
returns-clause-catalog c = one_catalog (laws c)

pub returns-clause-either : goal.returns-clause-either
returns-clause-either c = read_or_refused (laws c)

pub returns-clause-refusal : goal.returns-clause-refusal
returns-clause-refusal c = one_refusal (laws c)
