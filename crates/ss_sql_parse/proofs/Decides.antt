-- One token decides everywhere in the grammar.
use Rattle.std.proofs.Common.{◌≡◌, true, refl}
use Rattle.ss_sql_grammar.specs.Grammar.{decides}
use Rattle.ss_sql_parse.specs.Sql.{sql}
use Rattle.ss_sql_parse.specs.Statements.{statement, query, condition}

pub statement_decides : decides sql statement ≡ true
statement_decides = refl

pub query_decides : decides sql query ≡ true
query_decides = refl

pub condition_decides : decides sql condition ≡ true
condition_decides = refl
