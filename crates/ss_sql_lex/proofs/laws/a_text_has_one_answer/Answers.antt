use Rattle.ss_sql_lex.proofs.Once.{spells_one_list, spells_or_fails, fails_once}
use Rattle.ss_sql_lex.proofs.laws.a_text_has_one_answer.Goals as goal

pub returns-clause-tokens : goal.returns-clause-tokens
returns-clause-tokens c = spells_one_list

pub returns-clause-either : goal.returns-clause-either
returns-clause-either c = spells_or_fails

pub returns-clause-fault : goal.returns-clause-fault
returns-clause-fault c = fails_once
