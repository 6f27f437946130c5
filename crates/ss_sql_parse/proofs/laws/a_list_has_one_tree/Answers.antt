use Rattle.std.proofs.Common.{refl}
use Rattle.ss_sql_parse.specs.Statements.{statement, query, condition}
use Rattle.ss_sql_parse.proofs.Whole.{one_tree}
use Rattle.ss_sql_parse.proofs.laws.a_list_has_one_tree.Goals as goal

pub returns-clause-statements : goal.returns-clause-statements
returns-clause-statements c = one_tree statement refl

pub returns-clause-queries : goal.returns-clause-queries
returns-clause-queries c = one_tree query refl

pub returns-clause-conditions : goal.returns-clause-conditions
returns-clause-conditions c = one_tree condition refl
