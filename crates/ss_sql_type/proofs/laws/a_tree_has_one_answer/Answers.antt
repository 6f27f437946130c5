use Rattle.ss_sql_type.proofs.Once.{one_refusal, refused_or_typed}
use Rattle.ss_sql_type.proofs.laws.a_tree_has_one_answer.Goals as goal

pub returns-clause-refusal : goal.returns-clause-refusal
returns-clause-refusal c = one_refusal

pub returns-clause-either : goal.returns-clause-either
returns-clause-either c = refused_or_typed
