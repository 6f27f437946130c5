-- Readers of lists with commas between their items, and of what may be left out.
use Rattle.std.specs.Prelude.{List, [], ◌∷◌, length, Option, Ok}
use Rattle.ss_sql_parse.specs.declared.lexeme.Lexeme.{Lexeme}
use Rattle.ss_sql_parse.specs.declared.lexeme.Terminal.TheVariants as t
use Rattle.ss_sql_grammar.specs.Grammar.{◌>>=◌, Reader, pair, many, perhaps, read, starts, token, begins}
use Rattle.ss_sql_parse.specs.Sql.{Sql, sql, inner}
use Rattle.ss_sql_parse.specs.Terminals.{code, kind}
use Rattle.ss_sql_parse.specs.Statements.{items_of}

-- an item, and others behind commas
abbrev pub list_read : {A : Type 0} → Reader Lexeme A → Reader Lexeme (List A)
list_read p ts = pair p (λ us. many (length us) (begins kind (code t.Comma ∷ [])) (λ vs. pair (token kind (code t.Comma)) p vs) us) ts >>= λ x. Ok (items_of x.0, x.1)

-- a rule that may be left out
abbrev pub maybe_read : {A : Type 0} → Sql A → Reader Lexeme (Option A)
maybe_read g ts = perhaps (begins sql.kind (starts sql g)) (read sql inner g) ts
