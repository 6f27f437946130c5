use Rattle.ss_sql_parse.specs.Statements.{statement, query, condition}
use Rattle.ss_sql_parse.proofs.Answer.{one_text, read_or_refused, one_refusal}
use Rattle.ss_sql_parse.proofs.laws.a_text_has_one_answer.Goals as goal

pub returns-clause-statement : goal.returns-clause-statement
returns-clause-statement c = one_text statement

pub returns-clause-statement_or_refusal : goal.returns-clause-statement_or_refusal
returns-clause-statement_or_refusal c = read_or_refused statement

pub returns-clause-statement_refusal : goal.returns-clause-statement_refusal
returns-clause-statement_refusal c = one_refusal statement

pub returns-clause-query : goal.returns-clause-query
returns-clause-query c = one_text query

pub returns-clause-query_or_refusal : goal.returns-clause-query_or_refusal
returns-clause-query_or_refusal c = read_or_refused query

pub returns-clause-query_refusal : goal.returns-clause-query_refusal
returns-clause-query_refusal c = one_refusal query

pub returns-clause-condition : goal.returns-clause-condition
returns-clause-condition c = one_text condition

pub returns-clause-condition_or_refusal : goal.returns-clause-condition_or_refusal
returns-clause-condition_or_refusal c = read_or_refused condition

pub returns-clause-condition_refusal : goal.returns-clause-condition_refusal
returns-clause-condition_refusal c = one_refusal condition
