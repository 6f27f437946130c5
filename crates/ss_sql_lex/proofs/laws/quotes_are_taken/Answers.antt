use Rattle.ss_sql_lex.proofs.Quotes.{quotes_are_taken}
use Rattle.ss_sql_lex.proofs.laws.quotes_are_taken.Goals as goal

pub returns : goal.returns
returns c = quotes_are_taken
