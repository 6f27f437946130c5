use Rattle.ss_nest.proofs.OneAnswer.{one_nested, nested_or_refused, one_nested_refusal}
use Rattle.ss_nest.proofs.laws.a_nested_value_has_one_answer.Goals as goal

pub returns : goal.returns
returns c =
    let laws = c.a_value_has_one_answer.ensures in
    record {
      catalog = one_nested laws.catalog;
      either = nested_or_refused laws.catalog laws.either laws.refusal;
      refusal = one_nested_refusal laws.catalog laws.either laws.refusal;
    }
